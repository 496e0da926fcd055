-- Farthest: the longest prefix of a text that is also a prefix of some concatenation of words.
use mathlib.Core.Path.{◌≡◌, refl, sym, ap, ◌∙◌, subst}
use mathlib.Core.Bool.{true, false, false≢true}
use mathlib.Core.Logic.{◌⊎◌, inl, inr, ⊎_elim, ◌↔◌}
use mathlib.Core.Option.{some}
use mathlib.Core.List.{[], ◌∷◌, ◌++◌, append_assoc, append-nil, nil≢cons, head-eq_of_cons-eq, tail-eq_of_cons-eq}
use Prim.Native.Nat.{ℕ, zero, suc, ◌-◌, ◌≤◌, ◌<◌}
use native.Mathlib.Decide.{dec_le, dec_lt}
use native.Mathlib.Nat.{le-suc_iff}
use native.Mathlib.Omega.{arith}
use lib.ListN.{length, take, drop, length-append, length-take, take-append-drop}
use lib.Seq.{slice, slice_empty, length-slice, take-take, take_at, drop_at, length-take-le}
use Rattle.std.specs.Prelude.{if◌then◌else◌}
use Rattle.meaning.specs.Words.{Word, Words, has, word}
use Rattle.meaning.specs.Automaton.{states, border}
use Rattle.meaning.specs.Readings.{readable, viable_at, viable_by, viable, state_at, farthest_to, farthest}
use Rattle.meaning.specs.Plain.{Dictionary, Has, Prefix, PrefixIn, empty, of, Suffix, ProperSuffix, LongestIn, Star, Viable, Farthest}
use Rattle.meaning.proofs.Find.{Tested, pass, fail, test, find_some, has_word, has_true}
use Rattle.meaning.proofs.Lists.{trichotomy}
use Rattle.meaning.proofs.States.{states_trie, states_are_prefixes}
use Rattle.meaning.proofs.Suffixes.{suffix-length, suffix-drop, suffix_trans, suffix_inner, proper_some, proper_inside}
use Rattle.meaning.proofs.Readings.{accepted_is_star}
use Rattle.meaning.proofs.Counts.{readings_of_prefix}
use Rattle.meaning.proofs.Columns.{state_longest, state_inside}

-- a concatenation of words and one word more is one
star_word : {X : Words} {u w : Word} → Star X u → Has X w → Star X (u ++ w)
star_word {w = w} Star.empty h = Star.more h Star.empty (sym (append-nil w))
star_word {w = w} (Star.more {w = v} {u = r} k s e) h = Star.more k (star_word s h) (ap (λ (x : Word). x ++ w) e ∙ append_assoc v r w)

-- where two words u ++ a and w ++ v are alike, u begins w, or it begins with w
pub overlap : (u a w v : Word) → u ++ a ≡ w ++ v → Prefix u w ⊎ ((r : Word) × (w ++ r ≡ u) × (r ++ a ≡ v))
overlap [] a w v e = inl (record { after = w; joins = refl })
overlap (x ∷ u) a [] v e = inr (x ∷ u, refl, e)
overlap (x ∷ u) a (y ∷ w) v e = go (overlap u a w v (tail-eq_of_cons-eq e))
  where
    q : x ≡ y
    q = head-eq_of_cons-eq e

    go : Prefix u w ⊎ ((r : Word) × (w ++ r ≡ u) × (r ++ a ≡ v))
        → Prefix (x ∷ u) (y ∷ w) ⊎ ((r : Word) × ((y ∷ w) ++ r ≡ x ∷ u) × (r ++ a ≡ v))
    go (inl p) = inl (record { after = p.after; joins = cc (p.joins, q) })
    go (inr (r, f, g)) = inr (r, cc (f, q), g)

-- u is a concatenation of words, and after it the beginning of a word
record Cut (X : Words) (u : Word) : Type 0 where
  pub front : Word
  pub back : Word
  pub joins : front ++ back ≡ u
  pub star : Star X front
  pub begins : PrefixIn X back

cut_star : {X : Words} {s : Word} → Star X s → (u a : Word) → u ++ a ≡ s → Cut X u
cut_star Star.empty [] a e = record { front = []; back = []; joins = refl; star = Star.empty; begins = empty refl }
cut_star Star.empty (x ∷ u) a e = absurd (nil≢cons (sym e))
cut_star {X} (Star.more {w = w} {u = v} h s q) u a e = go (overlap u a w v (e ∙ q)) (cut_star s)
  where
    go : Prefix u w ⊎ ((r : Word) × (w ++ r ≡ u) × (r ++ a ≡ v)) → ((r b : Word) → r ++ b ≡ v → Cut X r) → Cut X u
    go (inl p) more =
        let f = find_some X w h.place h.found in
        record {
          front = [];
          back = u;
          joins = refl;
          star = Star.empty;
          begins = of h.place f.inside (record { after = p.after; joins = p.joins ∙ sym f.reads });
        }
    go (inr (r, f, g)) more =
        let c = more r a g in
        record {
          front = w ++ c.front;
          back = c.back;
          joins = append_assoc w c.front c.back ∙ ap (λ (x : Word). w ++ x) c.joins ∙ f;
          star = Star.more h c.star refl;
          begins = c.begins;
        }

viable_cut : {X : Words} {u : Word} → Viable X u ↔ Cut X u
viable_cut {X} {u} = (λ v. cut_star v.star u v.prefix.after v.prefix.joins, back)
  where
    back : Cut X u → Viable X u
    back c = go c.begins
      where
        go : PrefixIn X c.back → Viable X u
        go (empty e) = record {
          whole = c.front;
          star = c.star;
          prefix = record { after = []; joins = cc (append-nil u, append-nil c.front, c.joins, e) };
        }
        go (of n l p) = record {
          whole = c.front ++ word X n;
          star = star_word c.star (has_word X n l);
          prefix = record {
            after = p.after;
            joins = cc (append_assoc c.front c.back p.after, c.joins, p.joins);
          };
        }

-- a prefix of a viable word is viable
viable_front : {X : Words} (u v : Word) → Viable X (u ++ v) → Viable X u
viable_front u v h = record {
  whole = h.whole;
  star = h.star;
  prefix = record { after = v ++ h.prefix.after; joins = sym (append_assoc u v h.prefix.after) ∙ h.prefix.joins };
}

-- a text up to position j, cut at position i
cut_at : (t : Word) (i j : ℕ) → i ≤ j → take i t ++ slice i j t ≡ take j t
cut_at t i j h = ap (λ (u : Word). u ++ slice i j t) (sym (take-take i j t h)) ∙ take-append-drop i (take j t)

-- `viable_by` tries every position up to j
module _ (X : Words) (t : Word) (i : ℕ) where
  viable_by_here : (j : ℕ) → viable_at X t i (suc j) ≡ true → viable_by X t i (suc j) ≡ true
  viable_by_here j e = ap (λ b. if b then true else viable_by X t i j) e

  viable_by_past : (j : ℕ) → viable_at X t i (suc j) ≡ false → viable_by X t i (suc j) ≡ viable_by X t i j
  viable_by_past j e = ap (λ b. if b then true else viable_by X t i j) e

  viable_by_some : (j : ℕ) → viable_by X t i j ≡ true → (k : ℕ) × (k ≤ j) × (viable_at X t i k ≡ true)
  viable_by_some zero e = (0, omega arith, e)
  viable_by_some (suc j) e = go (test (viable_at X t i (suc j))) (viable_by_some j)
    where
      go : Tested (viable_at X t i (suc j)) → (viable_by X t i j ≡ true → (k : ℕ) × (k ≤ j) × (viable_at X t i k ≡ true))
          → (k : ℕ) × (k ≤ suc j) × (viable_at X t i k ≡ true)
      go (pass q) more = (suc j, omega arith, q)
      go (fail q) more = let (k, l, r) = more (sym (viable_by_past j q) ∙ e) in (k, omega arith, r)

  some_viable_by : (j k : ℕ) → k ≤ j → viable_at X t i k ≡ true → viable_by X t i j ≡ true
  some_viable_by zero k l e = let z : k ≡ 0 = omega arith in subst (λ (m : ℕ). viable_at X t i m ≡ true) z e
  some_viable_by (suc j) k l e = go (test (viable_at X t i (suc j))) (some_viable_by j)
    where
      go : Tested (viable_at X t i (suc j)) → ((m : ℕ) → m ≤ j → viable_at X t i m ≡ true → viable_by X t i j ≡ true)
          → viable_by X t i (suc j) ≡ true
      go (pass q) more = viable_by_here j q
      go (fail q) more =
          viable_by_past j q ∙ ⊎_elim
          (λ h. more k h e)
          (λ h. absurd (false≢true (sym q ∙ subst (λ (m : ℕ). viable_at X t i m ≡ true) h e)))
          (le-suc_iff.0 l)

-- a position that has a reading is viable
pub readable_viable : (X : Words) (t : Word) (i : ℕ) → readable X t i ≡ true → viable X t i ≡ true
readable_viable X t i e =
    let at : viable_at X t i i ≡ true = rw (e, slice_empty i t, (states_trie X).root) in
    some_viable_by X t i i i (omega arith) at

module _ (X : Words) (D : Dictionary X) (t : Word) where
  readable_star : (j : ℕ) → j ≤ length t → (readable X t j ≡ true) ↔ Star X (take j t)
  readable_star j h = rw (readings_of_prefix X t j h) (accepted_is_star X D (take j t))

  viable_at_is : (i j : ℕ) → j ≤ length t → (viable_at X t i j ≡ true) ↔ (Star X (take j t) × PrefixIn X (slice j i t))
  viable_at_is i j h = go (test (readable X t j))
    where
      go : Tested (readable X t j) → (viable_at X t i j ≡ true) ↔ (Star X (take j t) × PrefixIn X (slice j i t))
      go (pass e) = (
        λ q. ((readable_star j h).0 e, (states_are_prefixes X _).0 (has_true (states X) _ (rw e at q))),
        λ q. let k = (states_are_prefixes X (slice j i t)).1 q.1 in rw (e, k.found),
      )
      go (fail e) = (
        λ q. absurd (false≢true (rw e at q)),
        λ q. absurd (false≢true (sym e ∙ (readable_star j h).1 q.0)),
      )

  pub viable_is : (i : ℕ) → i ≤ length t → (viable X t i ≡ true) ↔ Viable X (take i t)
  viable_is i h = (forth, back)
    where
      forth : viable X t i ≡ true → Viable X (take i t)
      forth e =
          let (k, l, q) = viable_by_some X t i i e in
          let (s, p) = (viable_at_is i k (omega arith)).0 q in
          viable_cut.1 (record {
            front = take k t;
            back = slice k i t;
            joins = cut_at t k i l;
            star = s;
            begins = p;
          })

      back : Viable X (take i t) → viable X t i ≡ true
      back v =
          let c = viable_cut.0 v in
          let k = length c.front in
          let l : k ≤ i = omega (arith, length-append c.front c.back, ap length c.joins, length-take i t) in
          let f : take k t ≡ c.front = sym (take-take k i t l) ∙ ap (take k) (sym c.joins) ∙ take_at c.front c.back k refl in
          let b : slice k i t ≡ c.back = ap (drop k) (sym c.joins) ∙ drop_at c.front c.back k refl in
          some_viable_by X t i i k l ((viable_at_is i k (omega arith)).1 (rw f c.star, rw b c.begins))

  -- the prefixes of a viable prefix are viable
  viable_lower : (i j : ℕ) → i ≤ j → Viable X (take j t) → Viable X (take i t)
  viable_lower i j h v = viable_front (take i t) (slice i j t) (rw (cut_at t i j h) v)

-- p is the greatest viable position up to i
record Greatest (X : Words) (t : Word) (i p : ℕ) : Type 0 where
  pub within : p ≤ i
  pub reached : viable X t p ≡ true
  pub greatest : (j : ℕ) → j ≤ i → viable X t j ≡ true → j ≤ p

farthest_to_here : (X : Words) (t : Word) (i : ℕ) → viable X t (suc i) ≡ true → farthest_to X t (suc i) ≡ suc i
farthest_to_here X t i e = ap (λ b. if b then suc i else farthest_to X t i) e

farthest_to_past : (X : Words) (t : Word) (i : ℕ) → viable X t (suc i) ≡ false → farthest_to X t (suc i) ≡ farthest_to X t i
farthest_to_past X t i e = ap (λ b. if b then suc i else farthest_to X t i) e

farthest_to_is : (X : Words) (t : Word) (i : ℕ) → Greatest X t i (farthest_to X t i)
farthest_to_is X t zero = record { within = omega arith; reached = rw (states_trie X).root; greatest = λ j h e. h }
farthest_to_is X t (suc i) = go (test (viable X t (suc i))) (farthest_to_is X t i)
  where
    go : Tested (viable X t (suc i)) → Greatest X t i (farthest_to X t i) → Greatest X t (suc i) (farthest_to X t (suc i))
    go (pass e) g = rw (farthest_to_here X t i e) (record { within = omega arith; reached = e; greatest = λ j h q. h })
    go (fail e) g = rw (farthest_to_past X t i e) (record { within = omega (arith, g.within); reached = g.reached; greatest = up_to })
      where
        up_to : (j : ℕ) → j ≤ suc i → viable X t j ≡ true → j ≤ farthest_to X t i
        up_to j h q = ⊎_elim (λ k. g.greatest j k q) (λ k. absurd (false≢true (sym e ∙ ap (viable X t) (sym k) ∙ q))) (le-suc_iff.0 h)

pub farthest_within : (X : Words) (t : Word) → farthest X t ≤ length t
farthest_within X t = (farthest_to_is X t (length t)).within

pub farthest_is : (X : Words) → Dictionary X → (t : Word) (p : ℕ) → Farthest X t p ↔ (p ≡ farthest X t)
farthest_is X D t p = (λ f. omega (arith, up f, down f), λ e. rw e far)
  where
    far : Farthest X t (farthest X t)
    far = record {
      within = farthest_within X t;
      reached = (viable_is X D t (farthest X t) (farthest_within X t)).0 (farthest_to_is X t (length t)).reached;
      greatest = λ j h v. (farthest_to_is X t (length t)).greatest j h ((viable_is X D t j h).1 v);
    }

    up : Farthest X t p → p ≤ farthest X t
    up f = far.greatest p f.within f.reached

    down : Farthest X t p → farthest X t ≤ p
    down f = f.greatest (farthest X t) far.within far.reached

-- it is found from any viable position by going on while the next is viable
pub farthest_found : (X : Words) → Dictionary X → (t : Word) (p : ℕ) → p ≤ length t → viable X t p ≡ true
    → (p < length t → viable X t (suc p) ≡ false) → p ≡ farthest X t
farthest_found X D t p h e stop = (farthest_is X D t p).0 (record {
  within = h;
  reached = (viable_is X D t p h).0 e;
  greatest = λ j k v. not_above j k v (dec_le j p);
})
  where
    not_above : (j : ℕ) → j ≤ length t → Viable X (take j t) → Dec (j ≤ p) → j ≤ p
    not_above j k v (yes l) = l
    not_above j k v (no l) =
        let next = (viable_is X D t (suc p) (omega arith)).1 (viable_lower X D t (suc p) j (omega arith) v) in
        absurd (false≢true (sym (stop (omega arith)) ∙ next))

-- where state v begins that ends at position i
abbrev pub start_of : Words → ℕ → ℕ → ℕ
start_of X i v = i - length (word (states X) v)

-- Along the borders of the state at a position: v is a state that the first i letters end with, and before none of the longer ones
-- is a reading.
pub record Climbed (X : Words) (t : Word) (i v : ℕ) : Type 0 where
  pub inside : v < length (states X)
  pub ends : Suffix (word (states X) v) (take i t)
  pub past : (j : ℕ) → j < start_of X i v → viable_at X t i j ≡ false

module _ (X : Words) (t : Word) (i : ℕ) (h : i ≤ length t) where
  letters : length (take i t) ≡ i
  letters = length-take-le i t h

  -- what stands from position j on
  from : (j : ℕ) → Suffix (slice j i t) (take i t)
  from j = record { before = take j (take i t); joins = take-append-drop j (take i t) }

  from-length : (j : ℕ) → length (slice j i t) ≡ i - j
  from-length j = length-slice j i t h

  no_state : (j : ℕ) → (Has (states X) (slice j i t) → ⊥) → viable_at X t i j ≡ false
  no_state j none = go (test (readable X t j)) (test (has (states X) (slice j i t)))
    where
      go : Tested (readable X t j) → Tested (has (states X) (slice j i t)) → viable_at X t i j ≡ false
      go (fail e) q = rw e
      go (pass e) (pass q) = absurd (none (has_true (states X) _ q))
      go (pass e) (fail q) = rw (e, q)

  pub climbed_first : Climbed X t i (state_at X t i)
  climbed_first =
      let l = state_longest X t i in
      record {
        inside = state_inside X t i;
        ends = l.ends;
        past = λ j k. no_state j (λ m. omega (arith, l.longest _ m (from j), from-length j));
      }

  module _ {v : ℕ} (φ : Climbed X t i v) where
    stands : drop (start_of X i v) (take i t) ≡ word (states X) v
    stands = ap (λ (n : ℕ). drop (n - length (word (states X) v)) (take i t)) (sym letters) ∙ sym (suffix-drop φ.ends)

    pub climbed_fits : length (word (states X) v) ≤ i
    climbed_fits = omega (arith, suffix-length φ.ends, letters)

    -- a reading is before v
    pub climbed_viable : readable X t (start_of X i v) ≡ true → viable X t i ≡ true
    climbed_viable e =
        let at : viable_at X t i (start_of X i v) ≡ true = rw (e, stands, (states_trie X).once v φ.inside) in
        some_viable_by X t i i (start_of X i v) (omega arith) at

    module _ (e : readable X t (start_of X i v) ≡ false) where
      unread : viable_at X t i (start_of X i v) ≡ false
      unread = rw e

      -- none is, and no state is left
      pub climbed_all : length (word (states X) v) ≡ 0 → viable X t i ≡ false
      climbed_all z = go (test (viable X t i))
        where
          go : Tested (viable X t i) → viable X t i ≡ false
          go (fail q) = q
          go (pass q) =
              let (k, l, r) = viable_by_some X t i i q in
              elim (dec_lt k (start_of X i v)) [
                | yes m ↦ absurd (false≢true (sym (φ.past k m) ∙ r))
                | no m ↦
                    let s : k ≡ start_of X i v = omega arith in
                    absurd (false≢true (sym unread ∙ subst (λ (n : ℕ). viable_at X t i n ≡ true) s r))
              ]

      -- none is: on to the border
      pub climbed_on : {w : ℕ} → border (states X) (word (states X) v) ≡ some w → Climbed X t i w
      climbed_on {w} q = record {
        inside = proper_inside (states X) (states X) (word (states X) v) w q;
        ends = suffix_trans b.ends.suffix φ.ends;
        past = λ j l. go j l (trichotomy j (start_of X i v));
      }
        where
          b : LongestIn ProperSuffix (states X) (word (states X) v) (word (states X) w)
          b = proper_some (states X) (states X) (word (states X) v) w q

          go : (j : ℕ) → j < start_of X i w
              → (j ≡ start_of X i v) ⊎ ((j < start_of X i v) ⊎ (start_of X i v < j))
              → viable_at X t i j ≡ false
          go j l (inl s) = rw s unread
          go j l (inr (inl s)) = φ.past j s
          go j l (inr (inr s)) =
              no_state j (λ m. omega (
                arith,
                b.longest _ m (suffix_inner (from j) φ.ends (omega (arith, from-length j))),
                from-length j,
              ))
