use Rattle.std.proofs.Common.{sym, ap, ◌≡◌, ◌∙◌}
use Rattle.tree.specs.Found.{found}
use Rattle.tree.proofs.Found.{none_some, some_same}
use Rattle.tree.proofs.Walk.{state_row, sought_row, there, not_there}
use Rattle.tree.proofs.children.Place.child.Goals as goal

pub returns-in_err-next : goal.returns-in_err-next
returns-in_err-next c X S u τ σ =
    c.from_residual.ensures ∙ sym (ap found (not_there τ σ c.requires.letter (λ q e f. none_some (sym (c.in_err-next.was) ∙ sym e))))

pub letter-requires : goal.letter-requires
letter-requires c =
    let (X, S, u, τ, σ) = c.requires.sought in
    state_row τ (sought_row τ σ (sym (c.in_ok-next.was))).inside

pub returns-then-letter-a : goal.returns-then-letter-a
returns-then-letter-a c X S u τ σ =
    sym (ap found (there τ σ (sym (c.in_ok-next.was)) (sym c.letter.ensures.is ∙ c.if-letter-a.true)))

pub returns : goal.returns
returns c X S u τ σ =
    sym (ap found (not_there τ σ c.requires.letter (λ q e f.
    let same : q ≡ c.in_ok-next.next = some_same (e ∙ c.in_ok-next.was) in
    c.if-letter-a.false (c.letter.ensures.is ∙ rw (← same) f))))
