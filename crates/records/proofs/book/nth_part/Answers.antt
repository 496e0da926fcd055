use Rattle.std.proofs.Common.{◌≡◌, ◌+◌, ℕ, rules, arith, sym, ◌∙◌, subst}
use Rattle.std.specs.Prelude.{Ok, Some, None}
use Rattle.letters.specs.Record.{block_at}
use Rattle.records.specs.Book.{Block, offset_from}
use Rattle.records.proofs.Blocks.{Going, sets_out, next, no_block, no_texts, the_block}
use Rattle.records.proofs.book.nth_part.Goals as goal

pub loop-init : goal.loop-init
loop-init c = sets_out _ _ c.requires

pub returns-in-Ok-None : goal.returns-in-Ok-None
returns-in-Ok-None c =
    let is : Ok None ≡ block_at c.args.book.now c.loop.at = search rules in
    no_block c.loop.invariant _ (omega arith) is

pub returns-in-Err : goal.returns-in-Err
returns-in-Err c = λ T q. absurd (no_texts c.loop.invariant _ (sym c.in-Err.is ∙ c.block_at.ensures) T q)

pub loop-preserved : goal.loop-preserved
loop-preserved c =
    let l = c.loop in
    let k = c.in-Ok-Some.len in
    let is : Ok (Some k) ≡ block_at c.args.book.now l.at = search rules in
    let past : l.at + 4 + k ≡ l.at + (4 + k) = omega arith in
    subst (λ (p : ℕ). Going c.args.book.now c.args.start (l.counter + 1) p) past (next l.invariant k is)

pub returns-in-Ok-Some-block_at : goal.returns-in-Ok-Some-block_at
returns-in-Ok-Some-block_at c = λ T q.
    let l = c.loop in
    let k = c.in-Ok-Some-block_at.len in
    let all : l.counter ≡ c.args.n = omega arith in
    let is : Ok (Some k) ≡ block_at c.args.book.now l.at = search rules in
    subst (λ (n : ℕ). Block c.args.book.now T n (offset_from c.args.start T n) (l.at + 4) k) all (the_block l.invariant k is T q)

pub returns-in-Ok-None-block_at : goal.returns-in-Ok-None-block_at
returns-in-Ok-None-block_at c =
    let is : Ok None ≡ block_at c.args.book.now c.loop.at = search rules in
    no_block c.loop.invariant _ (omega arith) is

pub returns-in-Err-block_at : goal.returns-in-Err-block_at
returns-in-Err-block_at c = λ T q. absurd (no_texts c.loop.invariant _ (sym c.in-Err-block_at.is ∙ c.block_at-2.ensures) T q)
