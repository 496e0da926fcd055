-- What is passed on of an answer is passed on of what the call tells.
use mathlib.Core.Path.{◌≡◌, sym, ◌∙◌, subst}
use mathlib.Core.List.{List}
use Prim.Native.Nat.{ℕ}
use Rattle.records.specs.Told.{Told}
use Rattle.orgamish_c.specs.Told.{Passed}

pub passed_as : {t u : Told} {r : ℕ} {lent : List ℕ} → t ≡ u → Passed t r lent → Passed u r lent
passed_as {r = r} {lent = lent} e p = subst (λ q. Passed q r lent) e p

-- .. and is decided by it
pub passed_decides : (t : Told) {r s : ℕ} {k l : List ℕ} → Passed t r k → Passed t s l → (r ≡ s) × (k ≡ l)
passed_decides t p q = (p.0 ∙ sym q.0, p.1 ∙ sym q.1)
