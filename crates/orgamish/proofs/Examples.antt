-- The dictionaries of docs/DICTIONARIES.md: which condition each one meets, and what follows.
use mathlib.Core.Path.{◌≡◌, refl, ap}
use mathlib.Core.Bool.{false}
use mathlib.Core.List.{[], ◌∷◌, map, reverse}
use Prim.Native.Nat.{ℕ, zero-le, suc-le-suc}
use native.Mathlib.Omega.{arith}
use lib.ListN.{length, set}
use Rattle.meaning.specs.Words.{Words}
use Rattle.meaning.specs.Automaton.{longest_chain}
use Rattle.meaning.specs.Readings.{readings}
use Rattle.meaning.specs.Plain.{Dictionary, ProperPrefix, ProperSuffix, NoneIs}
use Rattle.meaning.proofs.Unique.{suffix_free_r, prefix_free_r}
use Rattle.letters.specs.Letters.{mapped, identity}
use Rattle.records.specs.Run.{ran, run, dictionary}
use Rattle.records.specs.Stored.{word_records}
use Rattle.records.proofs.Accepted.{accepted, storable}

-- the words a, ab, bb
abbrev suffix_free : Words
suffix_free = (97 ∷ []) ∷ (97 ∷ 98 ∷ []) ∷ (98 ∷ 98 ∷ []) ∷ []

-- a, ba, bb
abbrev prefix_free : Words
prefix_free = (97 ∷ []) ∷ (98 ∷ 97 ∷ []) ∷ (98 ∷ 98 ∷ []) ∷ []

-- a, ab, ba
abbrev neither : Words
neither = (97 ∷ []) ∷ (97 ∷ 98 ∷ []) ∷ (98 ∷ 97 ∷ []) ∷ []

-- A, ab, ba
abbrev cased : Words
cased = (65 ∷ []) ∷ (97 ∷ 98 ∷ []) ∷ (98 ∷ 97 ∷ []) ∷ []

-- words whose records are accepted
is_dictionary : (X : Words) {at : ℕ} → dictionary identity (word_records X) ≡ ran X at → Dictionary X
is_dictionary X e = (storable (accepted false identity (word_records X) e)).dictionary

pub meets_suffix : NoneIs ProperSuffix suffix_free
unfolding run identity
meets_suffix = (suffix_free_r suffix_free (is_dictionary suffix_free refl)).1 (suc-le-suc zero-le)

pub meets_prefix : NoneIs ProperPrefix prefix_free
unfolding run identity
meets_prefix = (prefix_free_r prefix_free (is_dictionary (map reverse prefix_free) refl)).1 (suc-le-suc zero-le)

-- though its r is 2: a ends ba
pub prefix_r : longest_chain prefix_free ≡ 2
prefix_r = refl

pub meets_both : NoneIs ProperSuffix cased × NoneIs ProperPrefix cased
unfolding run identity
meets_both = (
  (suffix_free_r cased (is_dictionary cased refl)).1 (suc-le-suc zero-le),
  (prefix_free_r cased (is_dictionary (map reverse cased) refl)).1 (suc-le-suc zero-le),
)

-- .. but neither where the map takes A for a
pub neither_under : map (mapped (set identity 65 97)) cased ≡ neither
unfolding identity
neither_under = refl

pub ends_another : NoneIs ProperSuffix neither → ⊥
ends_another free = free 0 2 (omega arith) (omega arith)
    (record { suffix = record { before = 98 ∷ []; joins = refl }; proper = λ e. omega (arith, ap length e) })

pub begins_another : NoneIs ProperPrefix neither → ⊥
begins_another free = free 0 1 (omega arith) (omega arith)
    (record { prefix = record { after = 98 ∷ []; joins = refl }; proper = λ e. omega (arith, ap length e) })

-- aba is a, ba and ab, a
pub two_readings : readings neither (97 ∷ 98 ∷ 97 ∷ []) ≡ (0 ∷ 2 ∷ []) ∷ (1 ∷ 0 ∷ []) ∷ []
two_readings = refl
