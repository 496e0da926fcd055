-- States, borders and links of a dictionary, as source document 000 defines them.
use mathlib.Core.Path.{◌≡◌, refl, ◌∙◌}
use mathlib.Core.Logic.{◌↔◌}
use mathlib.Core.Option.{none, some}
use mathlib.Core.List.{[], ◌∷◌}
use Prim.Native.Nat.{ℕ, ◌<◌}
use native.Mathlib.Omega.{arith}
use lib.ListN.{length}
use Rattle.meaning.specs.Words.{Word, Words, word}
use Rattle.meaning.specs.Automaton.{states, nearest, nearest_proper, border, link}
use Rattle.meaning.specs.Plain.{Has, Suffix, ProperSuffix, LongestIn}
use Rattle.meaning.proofs.Find.{Once, none_or_some, none_unless}
use Rattle.meaning.proofs.States.{Within, within_self, states_trie, states_within}
use Rattle.meaning.proofs.Suffixes.{nearest_some, nearest_is, nearest_inside, proper_some, proper_is, proper_none, proper_inside, border_exists}

-- state s is the longest suffix, or proper suffix, of u among the words Y
pub record IsLongest (Ends : Word → Word → Type 0) (S Y : Words) (u : Word) (s : ℕ) : Type 0 where
  pub inside : s < length S
  pub longest : LongestIn Ends Y u (word S s)

module _ (S Y : Words) (i : Within Y S) (once : Once S) (u : Word) (s : ℕ) where
  nearest_iff : (nearest S Y u ≡ some s) ↔ IsLongest Suffix S Y u s
  nearest_iff = (
    λ e. record { inside = nearest_inside S Y u s e; longest = nearest_some S Y u s e },
    λ h. nearest_is S Y i u (word S s) h.longest ∙ once s h.inside,
  )

  proper_iff : (nearest_proper S Y u ≡ some s) ↔ IsLongest ProperSuffix S Y u s
  proper_iff = (
    λ e. record { inside = proper_inside S Y u s e; longest = proper_some S Y u s e },
    λ h. proper_is S Y i u (word S s) h.longest ∙ once s h.inside,
  )

module _ (X : Words) (u : Word) where
  -- the state of u is its longest suffix that is a state
  pub state_is_longest : (s : ℕ) → (nearest (states X) (states X) u ≡ some s) ↔ IsLongest Suffix (states X) (states X) u s
  state_is_longest = nearest_iff (states X) (states X) (within_self (states X)) (states_trie X).once u

  -- Border(u): the longest proper suffix that is a state. Only the empty word has none
  pub border_is_longest : (b : ℕ) → (border (states X) u ≡ some b) ↔ IsLongest ProperSuffix (states X) (states X) u b
  border_is_longest = proper_iff (states X) (states X) (within_self (states X)) (states_trie X).once u

  pub border_none : (border (states X) u ≡ none) ↔ (u ≡ [])
  border_none = go u
    where
      go : (v : Word) → (border (states X) v ≡ none) ↔ (v ≡ [])
      go [] = (λ e. refl, λ e. refl)
      go (a ∷ v) = (
        λ e. none_or_some e (border_exists (states X) (states_trie X) a v).1,
        λ e. let z : ◌≡◌ {A = ℕ} 0 1 = cc in absurd (omega arith),
      )

  -- SuffixLink(u): the longest proper suffix that is a word. There is none exactly where no proper suffix is a word
  pub link_is_longest : (l : ℕ) → (link X (states X) u ≡ some l) ↔ IsLongest ProperSuffix (states X) X u l
  link_is_longest = proper_iff (states X) X (states_within X) (states_trie X).once u

  pub link_none : (link X (states X) u ≡ none) ↔ ((w : Word) → ProperSuffix w u → Has X w → ⊥)
  link_none = (
    λ e w p h. none_or_some (proper_none (states X) X (states_within X) u e w p) h.found,
    λ f. none_unless _ (λ l e. let r = proper_some (states X) X u l e in f (word (states X) l) r.ends r.member),
  )
