use Rattle.std.proofs.Common.{arith}
use Rattle.tree.proofs.Walk.{state_row}
use Rattle.tree.proofs.Indexing.{no_first, the_first}
use Rattle.tree.proofs.index.search_start.Goals as goal

pub returns-then-first-eq-NONE : goal.returns-then-first-eq-NONE
returns-then-first-eq-NONE c = (omega arith, λ X S τ. no_first τ c.first_child-first.ensures.is c.if-first-eq-NONE.true)

pub letter-requires : goal.letter-requires
letter-requires c =
    let τ = c.requires.2 in
    state_row τ (the_first τ c.first_child-first.ensures.is c.if-first-eq-NONE.false).inside

pub returns-then-a-letter : goal.returns-then-a-letter
returns-then-a-letter c = (
  omega arith,
  λ X S τ d l m.
      let h = the_first τ c.first_child-first.ensures.is c.if-first-eq-NONE.false in
      h.least.first d l (omega (arith, c.if-a-letter.true, c.letter.ensures.is, h.letter)),
)
