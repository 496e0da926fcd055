-- Each turn writes one entry more.
use Rattle.std.proofs.Common.{sym, arith}
use Rattle.tree.proofs.Whole.{table_whole}
use Rattle.columns.proofs.Entry.{mapped_size, mapped_place}
use Rattle.columns.proofs.Filling.{room_first, filled_first, filled_reached, filled_on, filled_state_small, filled_probes_small, filled_columns, filled_all}
use Rattle.columns.proofs.scanning.scan.Goals as goal

pub note_tree-requires-clause-tree : goal.note_tree-requires-clause-tree
note_tree-requires-clause-tree c = let (X, ρ) = c.requires in (X, _, (table_whole ρ.table).tree)

pub loop-i-init : goal.loop-i-init
loop-i-init c X _ = let (Y, ρ) = c.requires in filled_first X _ _ _ (omega (arith, ρ.states)) (omega (arith, ρ.counts))

pub entry_after-entry-requires : goal.entry_after-entry-requires
entry_after-entry-requires c =
    let (X, σ) = c.requires in
    let ρ = room_first σ in
    let indexed = c.note_tree.ensures X _ (table_whole ρ.table).tree in
    (X, filled_reached ρ (c.loop-i.invariant X ρ) indexed (mapped_place _ _ c.loop-i-test.true))

pub overflow_cast-states : goal.overflow_cast-states
overflow_cast-states c =
    let (X, σ) = c.requires in
    let ρ = room_first σ in
    let indexed = c.note_tree.ensures X _ (table_whole ρ.table).tree in
    let l = mapped_place c.args.map.now _ c.loop-i-test.true in
    let φ = c.loop-i.invariant X ρ in
    omega (arith, filled_state_small ρ φ l (c.entry_after-entry.ensures X (filled_reached ρ φ indexed l)))

pub overflow_add-probes : goal.overflow_add-probes
overflow_add-probes c =
    let (X, σ) = c.requires in
    let ρ = room_first σ in
    let indexed = c.note_tree.ensures X _ (table_whole ρ.table).tree in
    let l = mapped_place c.args.map.now _ c.loop-i-test.true in
    let φ = c.loop-i.invariant X ρ in
    omega (arith, filled_probes_small ρ φ l (c.entry_after-entry.ensures X (filled_reached ρ φ indexed l)), σ.short, l)

pub loop-i-preserved : goal.loop-i-preserved
loop-i-preserved c X ρ =
    let indexed = c.note_tree.ensures X _ (table_whole ρ.table).tree in
    let l = mapped_place c.args.map.now _ c.loop-i-test.true in
    let φ = c.loop-i.invariant X ρ in
    filled_on ρ φ l (c.entry_after-entry.ensures X (filled_reached ρ φ indexed l))

-- after the last turn the columns are those of the text
pub farthest-requires : goal.farthest-requires
farthest-requires c =
    let (X, σ) = c.requires in
    let ρ = room_first σ in
    let size = mapped_size c.args.map.now c.args.text.now in
    let columns = filled_columns c.args.states.now c.args.counts.now (c.loop-i.invariant X ρ) (omega (arith, c.loop-i-test.false, size)) in
    (X, _, record { table = ρ.table; columns = columns }, sym size)

pub returns : goal.returns
returns c X σ =
    let a = c.args in
    let ρ = room_first σ in
    let φ = c.loop-i.invariant X ρ in
    let size = mapped_size a.map.now a.text.now in
    let columns = filled_columns a.states.now a.counts.now φ (omega (arith, c.loop-i-test.false, size)) in
    filled_all a.states.now a.counts.now φ (omega (arith, c.loop-i-test.false, size))
    (c.farthest.ensures X _ (record { table = ρ.table; columns = columns }) (sym size))
