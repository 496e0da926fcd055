-- The longest suffix in a list: what `nearest` computes, and how it goes on by a letter.
use mathlib.Core.Path.{◌≡◌, refl, sym, ◌∙◌, ap, subst}
use mathlib.Core.Logic.{◌⊎◌, inl, inr}
use mathlib.Core.Option.{none, some}
use mathlib.Core.List.{[], ◌∷◌, ◌++◌, append_assoc, append-nil}
use Prim.Native.Nat.{ℕ, ◌-◌, ◌≤◌, ◌<◌}
use native.Mathlib.Omega.{arith}
use lib.ListN.{length, drop, length-append}
use lib.Seq.{drop-append_seam}
use Rattle.meaning.specs.Words.{Word, Words, snoc, find, word}
use Rattle.meaning.specs.Automaton.{nearest, nearest_proper, border}
use Rattle.meaning.specs.Plain.{Has, Suffix, ProperSuffix, LongestIn}
use Rattle.meaning.proofs.Lists.{ends_nest}
use Rattle.meaning.proofs.Find.{Asked, got, lacks, ask, none_or_some, none_unless, find_some}
use Rattle.meaning.proofs.States.{Within, within_has, within_self, Trie, trie_root}

-- suffixes
pub suffix_whole : (u : Word) → Suffix u u
suffix_whole u = record { before = []; joins = refl }

pub suffix_empty : (u : Word) → Suffix [] u
suffix_empty u = record { before = u; joins = append-nil u }

pub suffix_longer : {v u : Word} (a : ℕ) → Suffix v u → Suffix v (a ∷ u)
suffix_longer a s = record { before = a ∷ s.before; joins = ap {B = Word} (λ l. a ∷ l) s.joins }

pub suffix_trans : {v u w : Word} → Suffix v u → Suffix u w → Suffix v w
suffix_trans {v} s s' = record {
  before = s'.before ++ s.before;
  joins = append_assoc s'.before s.before v ∙ ap (λ (x : Word). s'.before ++ x) s.joins ∙ s'.joins;
}

pub suffix_cases : (v : Word) (a : ℕ) (u : Word) → Suffix v (a ∷ u) → (v ≡ a ∷ u) ⊎ Suffix v u
suffix_cases v a u s = go s.before s.joins
  where
    go : (p : Word) → p ++ v ≡ a ∷ u → (v ≡ a ∷ u) ⊎ Suffix v u
    go [] e = inl e
    go (b ∷ p) e = inr (record { before = p; joins = cc })

pub suffix-length : {v u : Word} → Suffix v u → length v ≤ length u
suffix-length {v} s = omega (arith, length-append s.before v, ap length s.joins)

pub suffix-drop : {v u : Word} → Suffix v u → v ≡ drop (length u - length v) u
suffix-drop {v} {u} s =
    let n : length s.before ≡ length u - length v = omega (arith, length-append s.before v, ap length s.joins) in
    sym (drop-append_seam s.before v) ∙ rw s.joins (rw n)

-- two suffixes of one length are one
pub suffix_one : {v w u : Word} → Suffix v u → Suffix w u → length v ≡ length w → v ≡ w
suffix_one {u = u} s t e = suffix-drop s ∙ ap (λ (n : ℕ). drop (length u - n) u) e ∙ sym (suffix-drop t)

-- the shorter of two suffixes is a proper suffix of the longer
pub suffix_inner : {v w u : Word} → Suffix v u → Suffix w u → length v < length w → ProperSuffix v w
suffix_inner {v} {w} s t l =
    let (r, e) = ends_nest t.before w s.before v (t.joins ∙ sym s.joins) (omega arith) in
    record { suffix = record { before = r; joins = sym e }; proper = λ q. omega (arith, ap length q) }

suffix_nil : (v : Word) → Suffix v [] → v ≡ []
suffix_nil [] s = refl
suffix_nil (a ∷ v) s = absurd (omega (arith, suffix-length s))

-- the proper suffixes of a ∷ u are the suffixes of u
pub proper_tail : {v : Word} (a : ℕ) (u : Word) → ProperSuffix v (a ∷ u) → Suffix v u
proper_tail {v} a u s = go (suffix_cases v a u s.suffix)
  where
    go : (v ≡ a ∷ u) ⊎ Suffix v u → Suffix v u
    go (inl e) = absurd (s.proper e)
    go (inr t) = t

pub tail_proper : {v : Word} (a : ℕ) (u : Word) → Suffix v u → ProperSuffix v (a ∷ u)
tail_proper a u s = record { suffix = suffix_longer a s; proper = λ e. omega (arith, ap length e, suffix-length s) }

no_proper : (v : Word) → ProperSuffix v [] → ⊥
no_proper v s = s.proper (suffix_nil v s.suffix)

module _ (S Y : Words) where
  -- the cases of `nearest`
  pub nearest_here : (u : Word) (n : ℕ) → find Y u ≡ some n → nearest S Y u ≡ find S u
  nearest_here [] n e = rw e
  nearest_here (a ∷ u) n e = rw e

  pub nearest_past : (a : ℕ) (u : Word) → find Y (a ∷ u) ≡ none → nearest S Y (a ∷ u) ≡ nearest S Y u
  nearest_past a u e = rw e

  pub nearest_end : find Y [] ≡ none → nearest S Y [] ≡ none
  nearest_end e = rw e

  -- a proof about the number that `nearest` gives: at a word that is in Y, and past the first letter of one that is not
  pub nearest_ind : (P : Word → ℕ → Type 0) → ((u : Word) (s : ℕ) → Has Y u → find S u ≡ some s → P u s)
      → ((a : ℕ) (u : Word) (s : ℕ) → find Y (a ∷ u) ≡ none → P u s → P (a ∷ u) s)
      → (u : Word) (s : ℕ) → nearest S Y u ≡ some s → P u s
  nearest_ind P here past [] s h = go (ask (find Y []))
    where
      go : Asked (find Y []) → P [] s
      go (got n e) = here [] s (record { place = n; found = e }) (sym (nearest_here [] n e) ∙ h)
      go (lacks e) = none_or_some (nearest_end e) h
  nearest_ind P here past (a ∷ u) s h = go (nearest_ind P here past u s) (ask (find Y (a ∷ u)))
    where
      go : (nearest S Y u ≡ some s → P u s) → Asked (find Y (a ∷ u)) → P (a ∷ u) s
      go more (got n e) = here (a ∷ u) s (record { place = n; found = e }) (sym (nearest_here (a ∷ u) n e) ∙ h)
      go more (lacks e) = past a u s e (more (sym (nearest_past a u e) ∙ h))

  -- the number is that of the string that stands there
  pub nearest_number : (u : Word) (s : ℕ) → nearest S Y u ≡ some s → find S (word S s) ≡ some s
  nearest_number =
      nearest_ind (λ u s. find S (word S s) ≡ some s) (λ u s h e. rw (find_some S u s e).reads e) (λ a u s e h. h)

  pub nearest_inside : (u : Word) (s : ℕ) → nearest S Y u ≡ some s → s < length S
  nearest_inside u s e = (find_some S (word S s) s (nearest_number u s e)).inside

  -- what does not see the first letter of a word that is not in Y does not see what comes before the nearest
  pub along_nearest : {A : Type 0} (f : Word → A) → ((a : ℕ) (u : Word) → find Y (a ∷ u) ≡ none → f (a ∷ u) ≡ f u)
      → (u : Word) (s : ℕ) → nearest S Y u ≡ some s → f u ≡ f (word S s)
  along_nearest f skip =
      nearest_ind (λ u s. f u ≡ f (word S s)) (λ u s h e. ap f (sym (find_some S u s e).reads)) (λ a u s e h. skip a u e ∙ h)

  longest_here : (u v : Word) → v ≡ u → Has Y u → LongestIn Suffix Y u v
  longest_here u v e h = rw e (record { member = h; ends = suffix_whole u; longest = λ w k s. suffix-length s })

  longest_past : (a : ℕ) (u v : Word) → find Y (a ∷ u) ≡ none → LongestIn Suffix Y u v → LongestIn Suffix Y (a ∷ u) v
  longest_past a u v e r = record {
    member = r.member;
    ends = suffix_longer a r.ends;
    longest = λ w k s. go w k (suffix_cases w a u s);
  }
    where
      go : (w : Word) → Has Y w → (w ≡ a ∷ u) ⊎ Suffix w u → length w ≤ length v
      go w k (inl q) = none_or_some e (rw q at k.found)
      go w k (inr s) = r.longest w k s

  -- the number that `nearest` gives is that of the longest suffix in Y
  pub nearest_some : (u : Word) (s : ℕ) → nearest S Y u ≡ some s → LongestIn Suffix Y u (word S s)
  nearest_some =
      nearest_ind (λ u s. LongestIn Suffix Y u (word S s))
      (λ u s h e. longest_here u _ (find_some S u s e).reads h)
      (λ a u s e h. longest_past a u _ e h)

  -- and it gives one where a suffix is in Y
  pub nearest_exists : Within Y S → (w u : Word) → Has Y w → Suffix w u → (s : ℕ) × (nearest S Y u ≡ some s)
  nearest_exists i w u h x = go u x
    where
      here : (v : Word) → Has Y v → (s : ℕ) × (nearest S Y v ≡ some s)
      here v k = let r = within_has Y S i v k in (r.place, nearest_here v _ k.found ∙ r.found)

      go : (v : Word) → Suffix w v → (s : ℕ) × (nearest S Y v ≡ some s)
      go [] y = here [] (subst (Has Y) (suffix_nil w y) h)
      go (a ∷ v) y = step (go v) (ask (find Y (a ∷ v))) (suffix_cases w a v y)
        where
          step : (Suffix w v → (s : ℕ) × (nearest S Y v ≡ some s)) → Asked (find Y (a ∷ v)) → (w ≡ a ∷ v) ⊎ Suffix w v
              → (s : ℕ) × (nearest S Y (a ∷ v) ≡ some s)
          step more (got n e) c = here (a ∷ v) (record { place = n; found = e })
          step more (lacks e) (inl q) = here (a ∷ v) (subst (Has Y) q h)
          step more (lacks e) (inr z) = let (s, f) = more z in (s, nearest_past a v e ∙ f)

  pub nearest_none : Within Y S → (u : Word) → nearest S Y u ≡ none → (w : Word) → Suffix w u → find Y w ≡ none
  nearest_none i u e w x =
      none_unless _ (λ n f. none_or_some e (nearest_exists i w u (record { place = n; found = f }) x).1)

  -- so the longest suffix is the one that `nearest` gives
  pub nearest_is : Within Y S → (u v : Word) → LongestIn Suffix Y u v → nearest S Y u ≡ find S v
  nearest_is i u v r =
      let (s, e) = nearest_exists i v u r.member r.ends in
      let q = nearest_some u s e in
      let l : length (word S s) ≡ length v = omega (arith, q.longest v r.member r.ends, r.longest _ q.member q.ends) in
      e ∙ sym (nearest_number u s e) ∙ ap (find S) (suffix_one q.ends r.ends l)

  -- the same of proper suffixes: of a border and of a link
  pub proper_some : (u : Word) (s : ℕ) → nearest_proper S Y u ≡ some s → LongestIn ProperSuffix Y u (word S s)
  proper_some [] s h = none_or_some refl h
  proper_some (a ∷ u) s h =
      let r = nearest_some u s h in
      record { member = r.member; ends = tail_proper a u r.ends; longest = λ w k p. r.longest w k (proper_tail a u p) }

  pub proper_is : Within Y S → (u v : Word) → LongestIn ProperSuffix Y u v → nearest_proper S Y u ≡ find S v
  proper_is i [] v r = absurd (no_proper v r.ends)
  proper_is i (a ∷ u) v r =
      nearest_is i u v
      (record { member = r.member; ends = proper_tail a u r.ends; longest = λ w k s. r.longest w k (tail_proper a u s) })

  pub proper_none : Within Y S → (u : Word) → nearest_proper S Y u ≡ none → (w : Word) → ProperSuffix w u → find Y w ≡ none
  proper_none i [] h w s = absurd (no_proper w s)
  proper_none i (a ∷ u) h w s = nearest_none i u h w (proper_tail a u s)

  pub proper_number : (v : Word) (b : ℕ) → nearest_proper S Y v ≡ some b → find S (word S b) ≡ some b
  proper_number [] b h = none_or_some refl h
  proper_number (a ∷ u) b h = nearest_number u b h

  pub proper_inside : (v : Word) (b : ℕ) → nearest_proper S Y v ≡ some b → b < length S
  proper_inside v b h = (find_some S (word S b) b (proper_number v b h)).inside

  pub proper_shorter : (v : Word) (b : ℕ) → nearest_proper S Y v ≡ some b → length (word S b) < length v
  proper_shorter [] b h = none_or_some refl h
  proper_shorter (a ∷ u) b h = omega (arith, suffix-length (nearest_some u b h).ends)

-- among the states
module _ (S : Words) (t : Trie S) where
  pub nearest_root : nearest S S [] ≡ some 0
  nearest_root = nearest_here S S [] 0 t.root ∙ t.root

  -- every text has a state, and every word but the empty one a border
  pub state_exists : (u : Word) → (s : ℕ) × (nearest S S u ≡ some s)
  state_exists u = nearest_exists S S (within_self S) [] u (trie_root t) (suffix_empty u)

  pub border_exists : (a : ℕ) (u : Word) → (b : ℕ) × (border S (a ∷ u) ≡ some b)
  border_exists a u = state_exists u

  -- a letter more: the state before it is enough
  pub state_step : (u : Word) (a s : ℕ) → nearest S S u ≡ some s → nearest S S (snoc u a) ≡ nearest S S (snoc (word S s) a)
  state_step u a =
      along_nearest S S (λ v. nearest S S (snoc v a)) (λ b v e. nearest_past S S b (snoc v a) (t.closed (b ∷ v) a e)) u

  -- it goes to the child by that letter, if there is one
  pub step_child : (v : Word) (a n : ℕ) → find S (snoc v a) ≡ some n → nearest S S (snoc v a) ≡ some n
  step_child v a n e = nearest_here S S (snoc v a) n e ∙ e

  -- else to where its border goes
  pub border_step : (v : Word) (a b : ℕ) → border S v ≡ some b → border S (snoc v a) ≡ nearest S S (snoc (word S b) a)
  border_step [] a b h = none_or_some refl h
  border_step (c ∷ v) a b h = state_step v a b h

  pub step_border : (v : Word) (a b : ℕ) → border S v ≡ some b → find S (snoc v a) ≡ none
      → nearest S S (snoc v a) ≡ nearest S S (snoc (word S b) a)
  step_border [] a b h e = none_or_some refl h
  step_border (c ∷ v) a b h e = nearest_past S S c (snoc v a) e ∙ border_step (c ∷ v) a b h

  -- and else, from the empty word, to itself
  pub step_root : (a : ℕ) → find S (snoc [] a) ≡ none → nearest S S (snoc [] a) ≡ some 0
  step_root a e = nearest_past S S a [] e ∙ nearest_root

  pub border_first : (a : ℕ) → border S (snoc [] a) ≡ some 0
  border_first a = nearest_root
