use Rattle.std.proofs.Common.{◌≡◌, ℕ, Bool, true, false, ◌&&◌, if◌then◌else◌, eqb, List, [], ◌∷◌, take, refl, ap, ◌∙◌}
use Rattle.meaning.specs.Words.{same}
use lib.Pointwise.{pointwise}
use Rattle.automaton.proofs.rows.same_numbers.Goals as goal

both : (b r : Bool) → (b && r) ≡ (if b then r else false)
both true r = refl
both false r = refl

-- the library's equality of lists is that of words
same_pointwise : (l t : List ℕ) → pointwise eqb l t ≡ same l t
same_pointwise [] [] = refl
same_pointwise [] (y ∷ t) = refl
same_pointwise (x ∷ l) [] = refl
same_pointwise (x ∷ l) (y ∷ t) = ap (λ (r : Bool). eqb x y && r) (same_pointwise l t) ∙ both (eqb x y) (same l t)

pub returns : goal.returns
returns c = c.eq.ensures ∙ same_pointwise (take c.args.end c.args.lent.now) (take c.args.end c.args.table.now)
