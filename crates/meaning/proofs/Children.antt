-- The child with the least letter not below a given one, and how it changes when a state is added.
use mathlib.Core.Path.{◌≡◌, refl, sym, ◌∙◌, ap}
use mathlib.Core.Logic.{◌≢◌}
use mathlib.Core.Option.{none, some}
use mathlib.Core.List.{[], ◌∷◌}
use Prim.Native.Nat.{ℕ, zero, suc, ◌+◌, ◌-◌, ◌≤◌, ◌<◌}
use native.Mathlib.Decide.{ℕ_discrete}
use native.Mathlib.Omega.{arith}
use lib.ListN.{length}
use Rattle.meaning.specs.Numbers.{letter_values}
use Rattle.meaning.specs.Words.{Word, Words, snoc, find}
use Rattle.meaning.specs.Table.{least, child_from, front, last_letter, next_sibling}
use Rattle.meaning.proofs.Lists.{snoc_inj, snoc-length}
use Rattle.meaning.proofs.Find.{Asked, got, lacks, ask, none_or_some, none_unless, find_new, find_other}
use Rattle.meaning.proofs.States.{Trie}

-- no letter from a to before e leads on from p
abbrev pub NoChild : Words → Word → ℕ → ℕ → Type 0
NoChild S p a e = (d : ℕ) → a ≤ d → d < e → find S (snoc p d) ≡ none

-- of the letters from a to before e the least that leads on from p leads to state c
pub record LeastChild (S : Words) (p : Word) (a e c : ℕ) : Type 0 where
  pub letter : ℕ
  pub low : a ≤ letter
  pub high : letter < e
  pub child : find S (snoc p letter) ≡ some c
  pub first : NoChild S p a letter

module _ (S : Words) (p : Word) where
  least_here : (n a c : ℕ) → find S (snoc p a) ≡ some c → least S p (suc n) a ≡ some c
  least_here n a c e = rw e

  least_past : (n a : ℕ) → find S (snoc p a) ≡ none → least S p (suc n) a ≡ least S p n (suc a)
  least_past n a e = rw e

  none_from : (a e : ℕ) → find S (snoc p a) ≡ none → NoChild S p (suc a) e → NoChild S p a e
  none_from a e f h d l m = go (ℕ_discrete a d)
    where
      go : Dec (a ≡ d) → find S (snoc p d) ≡ none
      go (yes q) = rw (← q) f
      go (no q) = h d (omega arith) m

  least_some : (n a c : ℕ) → least S p n a ≡ some c → LeastChild S p a (a + n) c
  least_some zero a c h = none_or_some refl h
  least_some (suc n) a c h = go (least_some n (suc a) c) (ask (find S (snoc p a)))
    where
      go : (least S p n (suc a) ≡ some c → LeastChild S p (suc a) (suc a + n) c) → Asked (find S (snoc p a))
          → LeastChild S p a (a + suc n) c
      go more (got m e) = record {
        letter = a;
        low = omega arith;
        high = omega arith;
        child = e ∙ sym (least_here n a m e) ∙ h;
        first = λ d l k. absurd (omega arith);
      }
      go more (lacks e) =
          let r = more (sym (least_past n a e) ∙ h) in
          record {
            letter = r.letter;
            low = omega (arith, r.low);
            high = omega (arith, r.high);
            child = r.child;
            first = none_from a r.letter e r.first;
          }

  least_none : (n a : ℕ) → least S p n a ≡ none → NoChild S p a (a + n)
  least_none zero a h d l m = absurd (omega arith)
  least_none (suc n) a h d l m = go (least_none n (suc a)) (ask (find S (snoc p a)))
    where
      go : (least S p n (suc a) ≡ none → NoChild S p (suc a) (suc a + n)) → Asked (find S (snoc p a)) → find S (snoc p d) ≡ none
      go more (got k e) = none_or_some h (least_here n a k e)
      go more (lacks e) = none_from a (suc a + n) e (more (sym (least_past n a e) ∙ h)) d l (omega arith)

  -- what `child_from` says, both ways
  pub child_from_some : (a c : ℕ) → child_from S p a ≡ some c → LeastChild S p a letter_values c
  unfolding child_from
  child_from_some a c e =
      let r = least_some (letter_values - a) a c e in
      record { letter = r.letter; low = r.low; high = omega (arith, r.low, r.high); child = r.child; first = r.first }

  pub child_from_none : (a : ℕ) → child_from S p a ≡ none → NoChild S p a letter_values
  unfolding child_from
  child_from_none a e d l m = least_none (letter_values - a) a e d l (omega arith)

  pub child_from_is : (a c : ℕ) → LeastChild S p a letter_values c → child_from S p a ≡ some c
  child_from_is a c h = go (ask (child_from S p a))
    where
      not_below : (x y : ℕ) (r : LeastChild S p a letter_values x) (q : LeastChild S p a letter_values y) → ¬ (r.letter < q.letter)
      not_below x y r q l = none_or_some (q.first r.letter r.low l) r.child

      one : (n : ℕ) → LeastChild S p a letter_values n → some n ≡ some c
      one n r =
          let e : r.letter ≡ h.letter = omega (arith, not_below n c r h, not_below c n h r) in
          sym r.child ∙ ap (λ (d : ℕ). find S (snoc p d)) e ∙ h.child

      go : Asked (child_from S p a) → child_from S p a ≡ some c
      go (got n e) = e ∙ one n (child_from_some a n e)
      go (lacks e) = none_or_some (child_from_none a e h.letter h.low h.high) h.child

  pub child_from_no : (a : ℕ) → NoChild S p a letter_values → child_from S p a ≡ none
  child_from_no a h =
      none_unless _ (λ n e. let r = child_from_some a n e in none_or_some (h r.letter r.low r.high) r.child)

-- two lists that have the same children of p from a on
pub child_from_same : (S S' : Words) (p : Word) (a : ℕ) → ((d : ℕ) → a ≤ d → find S' (snoc p d) ≡ find S (snoc p d))
    → child_from S' p a ≡ child_from S p a
child_from_same S S' p a h = go (ask (child_from S p a))
  where
    moved : {c : ℕ} → LeastChild S p a letter_values c → LeastChild S' p a letter_values c
    moved r = record {
      letter = r.letter;
      low = r.low;
      high = r.high;
      child = h r.letter r.low ∙ r.child;
      first = λ d l m. h d l ∙ r.first d l m;
    }

    go : Asked (child_from S p a) → child_from S' p a ≡ child_from S p a
    go (got c e) = child_from_is S' p a c (moved (child_from_some S p a c e)) ∙ sym e
    go (lacks e) = child_from_no S' p a (λ d l m. h d l ∙ child_from_none S p a e d l m) ∙ sym e

-- a state more, the child of q by b
module _ (S : Words) (q : Word) (b : ℕ) where
  -- another state's children stay
  pub child_from_elsewhere : (p : Word) (a : ℕ) → q ≢ p → child_from (snoc S (snoc q b)) p a ≡ child_from S p a
  child_from_elsewhere p a n =
      child_from_same S (snoc S (snoc q b)) p a (λ d l. find_other S (snoc q b) (snoc p d) (λ e. n (snoc_inj q p e).0))

  other_letter : (d : ℕ) → b ≢ d → find (snoc S (snoc q b)) (snoc q d) ≡ find S (snoc q d)
  other_letter d n = find_other S (snoc q b) (snoc q d) (λ e. n (snoc_inj q q e).1)

  -- from a letter past b on they stay
  pub child_from_above : (a : ℕ) → b < a → child_from (snoc S (snoc q b)) q a ≡ child_from S q a
  child_from_above a h = child_from_same S (snoc S (snoc q b)) q a (λ d l. other_letter d (omega arith))

  -- where a child comes before b they stay
  pub child_from_before : (a d c : ℕ) → a ≤ d → d < b → find S (snoc q d) ≡ some c
      → child_from (snoc S (snoc q b)) q a ≡ child_from S q a
  child_from_before a d c l h e = go (ask (child_from S q a))
    where
      early : (x : ℕ) → NoChild S q a x → ¬ (d < x)
      early x n k = none_or_some (n d l k) e

      go : Asked (child_from S q a) → child_from (snoc S (snoc q b)) q a ≡ child_from S q a
      go (got n f) =
          let r = child_from_some S q a n f in
          let k = early r.letter r.first in
          child_from_is (snoc S (snoc q b)) q a n
          (record {
            letter = r.letter;
            low = r.low;
            high = r.high;
            child = other_letter r.letter (omega arith) ∙ r.child;
            first = λ x i j. other_letter x (omega arith) ∙ r.first x i j;
          })
          ∙ sym f
      go (lacks f) =
          let r = child_from_none S q a f in
          let k = early letter_values r in
          child_from_no (snoc S (snoc q b)) q a (λ x i j. other_letter x (omega arith) ∙ r x i j) ∙ sym f

  -- else it is the new state
  pub child_from_new : (a : ℕ) → find S (snoc q b) ≡ none → a ≤ b → b < letter_values → NoChild S q a b
      → child_from (snoc S (snoc q b)) q a ≡ some (length S)
  child_from_new a e l h n =
      child_from_is (snoc S (snoc q b)) q a (length S)
      (record {
        letter = b;
        low = l;
        high = h;
        child = find_new S (snoc q b) e;
        first = λ d k m. other_letter d (omega arith) ∙ n d k m;
      })

  -- and it has no children
  pub child_from_leaf : (a : ℕ) → Trie S → find S (snoc q b) ≡ none → child_from (snoc S (snoc q b)) (snoc q b) a ≡ none
  child_from_leaf a t e =
      child_from_elsewhere (snoc q b) a (λ f. omega (arith, ap length f, snoc-length q b))
      ∙ child_from_no S (snoc q b) a (λ d l m. t.closed (snoc q b) d e)

-- the last letter, and the siblings
pub front_snoc : (u : Word) (a : ℕ) → front (snoc u a) ≡ u
front_snoc [] a = refl
front_snoc (b ∷ []) a = refl
front_snoc (b ∷ c ∷ u) a = ap {B = Word} (λ v. b ∷ v) (front_snoc (c ∷ u) a)

pub last_letter_snoc : (u : Word) (a : ℕ) → last_letter (snoc u a) ≡ some a
last_letter_snoc [] a = refl
last_letter_snoc (b ∷ []) a = refl
last_letter_snoc (b ∷ c ∷ u) a = last_letter_snoc (c ∷ u) a

-- the next sibling of a child is the child with the least greater letter
pub sibling_snoc : (S : Words) (u : Word) (a : ℕ) → next_sibling S (snoc u a) ≡ child_from S u (suc a)
sibling_snoc S u a = rw (last_letter_snoc u a) (rw (front_snoc u a))

-- the sibling after the new state is the child that was next from a on
child_from_past : (S : Words) (u : Word) (a : ℕ) → a < letter_values → find S (snoc u a) ≡ none
    → child_from S u a ≡ child_from S u (suc a)
unfolding child_from
child_from_past S u a byte fresh = let e : letter_values - a ≡ suc (letter_values - suc a) = omega arith in rw (e, fresh)

pub sibling_new : (S : Words) (u : Word) (a : ℕ) → a < letter_values → find S (snoc u a) ≡ none
    → next_sibling (snoc S (snoc u a)) (snoc u a) ≡ child_from S u a
sibling_new S u a byte fresh =
    sibling_snoc (snoc S (snoc u a)) u a ∙ child_from_above S u a (suc a) (omega arith) ∙ sym (child_from_past S u a byte fresh)
