-- Each entry is right, or the test tells that it differs.
use Rattle.std.proofs.Common.{arith}
use Rattle.tree.proofs.Whole.{table_whole}
use Rattle.columns.proofs.Entry.{mapped_size, mapped_place}
use Rattle.columns.proofs.Agreeing.{columns_true, first_differs, agree_first, agree_reached, next_differs, agree_on, agree_all}
use Rattle.columns.proofs.checking.are_columns.Goals as goal

pub returns-then-not-holds_at : goal.returns-then-not-holds_at
returns-then-not-holds_at c X ρ = first_differs ρ c.holds_at.ensures c.if-not-holds_at.true

pub of-index-requires : goal.of-index-requires
of-index-requires c = let (X, ρ) = c.requires in (X, _, (table_whole ρ.table).tree)

pub loop-i-init : goal.loop-i-init
loop-i-init c X ρ = agree_first ρ c.holds_at.ensures c.if-not-holds_at.false

pub entry_after-entry-requires : goal.entry_after-entry-requires
entry_after-entry-requires c =
    let (X, ρ) = c.requires in
    let indexed = c.of-index.ensures X _ (table_whole ρ.table).tree in
    (X, agree_reached ρ (c.loop-i.invariant X ρ) indexed (mapped_place _ _ c.loop-i-test.true))

pub returns-then-not-holds_at-2 : goal.returns-then-not-holds_at-2
returns-then-not-holds_at-2 c X ρ =
    let indexed = c.of-index.ensures X _ (table_whole ρ.table).tree in
    let l = mapped_place c.args.map.now _ c.loop-i-test.true in
    let μ = c.loop-i.invariant X ρ in
    next_differs ρ μ l (c.entry_after-entry.ensures X (agree_reached ρ μ indexed l)) c.holds_at-in-loop-i.ensures c.if-not-holds_at-2.true

pub loop-i-preserved : goal.loop-i-preserved
loop-i-preserved c X ρ =
    let indexed = c.of-index.ensures X _ (table_whole ρ.table).tree in
    let l = mapped_place c.args.map.now _ c.loop-i-test.true in
    let μ = c.loop-i.invariant X ρ in
    agree_on ρ μ l (c.entry_after-entry.ensures X (agree_reached ρ μ indexed l)) c.holds_at-in-loop-i.ensures c.if-not-holds_at-2.false

pub returns : goal.returns
returns c X ρ =
    let μ = c.loop-i.invariant X ρ in
    columns_true X _ _ _ (agree_all ρ μ (omega (arith, c.loop-i-test.false, mapped_size c.args.map.now c.args.text.now)))
