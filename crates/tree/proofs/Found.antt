-- What an `Option` of the code says of what the definitions find.
use mathlib.Core.Path.{◌≡◌, refl, ◌∙◌}
use mathlib.Core.Logic.{◌≢◌}
use mathlib.Core.Option as maybe
use Prim.Native.Nat.{ℕ, ◌<◌}
use native.Mathlib.Decide.{ℕ_discrete}
use native.Mathlib.Omega.{arith}
use borrow.Author.Tests.{eq-eqb, ne_eqb}
use Rattle.std.specs.Prelude.{Some, None, unwrap_or}
use Rattle.meaning.specs.Numbers.{absent}
use Rattle.meaning.specs.Table.{stored}
use Rattle.tree.specs.Found.{found, present}

pub some_same : {m n : ℕ} → Some m ≡ Some n → m ≡ n
some_same e = cc

pub none_some : {A : Type 0} {n : ℕ} → None ≡ Some n → A
none_some e = let z : ◌≡◌ {A = ℕ} 0 1 = cc in absurd (omega arith)

pub none_is : (o : maybe.Option ℕ) → None ≡ found o → o ≡ maybe.none
none_is maybe.none e = refl
none_is (maybe.some n) e = cc

pub some_is : (o : maybe.Option ℕ) {n : ℕ} → Some n ≡ found o → o ≡ maybe.some n
some_is maybe.none e = cc
some_is (maybe.some m) e = cc

-- as a row stores it
pub stored_back : (o : maybe.Option ℕ) → unwrap_or (found o) absent ≡ stored o
stored_back maybe.none = refl
stored_back (maybe.some n) = refl

pub present_here : (x : ℕ) → x ≢ absent → present x ≡ Some x
present_here x d = rw (ne_eqb x absent d)

pub present_none : (x : ℕ) → x ≡ absent → present x ≡ None
present_none x e = rw (eq-eqb x absent e)

pub present_stored : (o : maybe.Option ℕ) → ((n : ℕ) → o ≡ maybe.some n → n < absent) → present (stored o) ≡ found o
present_stored maybe.none small = refl
present_stored (maybe.some n) small = present_here n (λ e. let l = small n refl in omega arith)

-- .. and what is stored where one is there
pub record Here (x n : ℕ) : Type 0 where
  pub same : x ≡ n
  pub there : x ≢ absent

pub present_some : (x : ℕ) {n : ℕ} → Some n ≡ present x → Here x n
present_some x {n} e = go (ℕ_discrete x absent)
  where
    go : Dec (x ≡ absent) → Here x n
    go (yes z) = let q = e ∙ present_none x z in cc
    go (no d) = let q = e ∙ present_here x d in record { same = cc; there = d }
