use Rattle.std.proofs.Common.{◌≡◌, ◌+◌, ℕ, rules, arith, sym, ◌∙◌, subst}
use Rattle.std.specs.Prelude.{Ok, Some}
use Rattle.letters.specs.Record.{block_at}
use Rattle.records.proofs.Blocks.{Going, sets_out, stopped, next}
use Rattle.records.proofs.book.block_run.Goals as goal

pub loop-len-init : goal.loop-len-init
loop-len-init c = rw c.from-at.ensures (sets_out _ _ c.requires.0)

pub loop-len-preserved : goal.loop-len-preserved
loop-len-preserved c =
    let l = c.loop-len in
    let k = c.in-Ok-Some.len in
    let is : Ok (Some k) ≡ block_at c.args.book.now l.at = search rules in
    let past : l.at + 4 + k ≡ l.at + (4 + k) = omega arith in
    subst (λ (p : ℕ). Going c.args.book.now c.args.start (l.blocks + 1) p) past (next l.invariant k is)

pub returns-in-Err : goal.returns-in-Err
returns-in-Err c = stopped c.loop-len.invariant _ _ (sym c.in-Err.is ∙ c.block_at.ensures)
