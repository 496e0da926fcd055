-- The walk along the children of a state: what the row of the next child holds, and that the walk ends.
use mathlib.Core.Path.{◌≡◌, sym, ap, ◌∙◌}
use mathlib.Core.Option.{none, some}
use mathlib.Core.List.{List}
use Prim.Native.Nat.{ℕ, suc, ◌-◌, ◌<◌, ◌≤◌}
use native.Mathlib.Decide.{dec_lt, ℕ_discrete}
use native.Mathlib.Omega.{arith}
use lib.Dec.{eqb}
use lib.ListN.{length}
use borrow.Author.Tests.{ne_eqb}
use Rattle.meaning.specs.Numbers.{letter_values, most_states, absent}
use Rattle.std.specs.Prelude.{if◌then◌else◌, Option, Some, None, unwrap_or}
use Rattle.meaning.specs.Words.{Word, Words, snoc, find, word}
use Rattle.meaning.specs.Table.{stored, child_from, first_child, last_letter, next_sibling, letter_field, child_field, sibling_field}
use Rattle.meaning.proofs.Find.{Asked, ask, got, lacks, none_or_some, none_unless, find_some}
use Rattle.meaning.proofs.Children.{NoChild, LeastChild, child_from_some, child_from_none, child_from_is, child_from_no, last_letter_snoc, sibling_snoc}
use Rattle.meaning.proofs.Rows.{stored_none, stored_some}
use Rattle.tree.specs.Found.{found, present}
use Rattle.tree.specs.Layout.{field_at, HasRow}
use Rattle.tree.specs.Tree.{Tree}
use Rattle.tree.specs.Insertion.{Holder, own, child, Sought}
use Rattle.tree.proofs.Found.{some_is, stored_back, present_here, present_none}

-- c is the child of u with the least letter from b on, and its row says so
pub record Child (S : Words) (t : List ℕ) (u : Word) (b c : ℕ) : Type 0 where
  pub least : LeastChild S u b letter_values c
  pub inside : c < length S
  pub reads : word S c ≡ snoc u least.letter
  pub letter : field_at t c letter_field ≡ least.letter
  pub next : field_at t c sibling_field ≡ stored (child_from S u (suc least.letter))

-- u has no child by a letter from b on
abbrev pub NoMore : Words → Word → ℕ → Type 0
NoMore S u b = (y : ℕ) → b ≤ y → find S (snoc u y) ≡ none

module _ {X S : Words} {t : List ℕ} (τ : Tree X S t) where
  pub state_row : {s : ℕ} → s < length S → HasRow t s
  state_row {s} h = omega (arith, τ.room)

  pub state_small : {s : ℕ} → s < length S → s < most_states
  state_small {s} h = omega (arith, τ.states.few)

  pub found_small : (u : Word) {s : ℕ} → find S u ≡ some s → s < absent
  found_small u {s} e = omega (arith, state_small (find_some S u s e).inside)

  -- the pointer in the row of the child by b
  sibling_of : (u : Word) (b : ℕ) {c : ℕ} → find S (snoc u b) ≡ some c → field_at t c sibling_field ≡ stored (child_from S u (suc b))
  sibling_of u b {c} e =
      let f = find_some S (snoc u b) c e in
      τ.siblings c f.inside ∙ ap (λ (v : Word). stored (next_sibling S v)) f.reads ∙ ap stored (sibling_snoc S u b)

  row_of : {u : Word} {b c : ℕ} → LeastChild S u b letter_values c → Child S t u b c
  row_of {u} {b} {c} h =
      let f = find_some S (snoc u h.letter) c h.child in
      record {
        least = h;
        inside = f.inside;
        reads = f.reads;
        letter = τ.letters c f.inside ∙ ap (λ (v : Word). stored (last_letter v)) f.reads ∙ ap stored (last_letter_snoc u h.letter);
        next = sibling_of u h.letter h.child;
      }

  module _ (u : Word) {b c : ℕ} (e : c ≡ stored (child_from S u b)) where
    pub more : (c ≡ absent → ⊥) → Child S t u b c
    more f = row_of (child_from_some S u b c (stored_some _ e f))

    pub no_more : c ≡ absent → NoMore S u b
    no_more f y h = none_unless _ (λ m q. none_or_some (child_from_none S u b none_there y h (τ.states.bytes u y m q)) q)
      where
        none_there : child_from S u b ≡ none
        none_there = stored_none (child_from S u b) (λ n q. found_small _ (child_from_some S u b n q).child) e f

-- how many letters the walk has before it at most
abbrev pub left : List ℕ → ℕ → ℕ
left t c = if eqb c absent then 0 else letter_values - field_at t c letter_field

pub left_same : (t t' : List ℕ) (c : ℕ) → field_at t' c letter_field ≡ field_at t c letter_field → left t' c ≡ left t c
left_same t t' c e = ap (λ (x : ℕ). if eqb c absent then 0 else letter_values - x) e

left_at : (t : List ℕ) (c x : ℕ) → c < absent → field_at t c letter_field ≡ x → left t c ≡ letter_values - x
left_at t c x l e = rw (ne_eqb c absent (λ i. omega arith), e)

pub left_less : {X S : Words} {t : List ℕ} (τ : Tree X S t) {u : Word} {b c : ℕ} → Child S t u b c
    → left t (field_at t c sibling_field) < left t c
left_less {S = S} {t = t} τ {u} {c = c} h = go (ask (child_from S u (suc h.least.letter)))
  where
    now : left t c ≡ letter_values - h.least.letter
    now = left_at t c h.least.letter (omega (arith, state_small τ h.inside)) h.letter

    go : Asked (child_from S u (suc h.least.letter)) → left t (field_at t c sibling_field) < left t c
    go (lacks q) = rw (h.next, q, now) (omega (arith, h.least.high))
    go (got m q) =
        let g = row_of τ (child_from_some S u (suc h.least.letter) m q) in
        let behind : left t m ≡ letter_values - g.least.letter = left_at t m g.least.letter (omega (arith, state_small τ g.inside)) g.letter in
        rw (h.next, q, behind, now) (omega (arith, g.least.low, g.least.high))

-- the search for the place of the letter a: `before` holds the pointer to `next`, and no child from a on is passed
pub record Seeking (S : Words) (u : Word) (a : ℕ) (before : Option ℕ) (next : ℕ) : Type 0 where
  pub from : ℕ
  pub holder : Holder S u from before
  pub low : from ≤ a
  pub next_is : next ≡ stored (child_from S u from)

module _ {X S : Words} {t : List ℕ} (τ : Tree X S t) {u : Word} {a next : ℕ} {before : Option ℕ} (w : Seeking S u a before next) where
  pub seeking_row : (next ≡ absent → ⊥) → Child S t u w.from next
  seeking_row f = more τ u w.next_is f

  pub seek_on : (next ≡ absent → ⊥) → field_at t next letter_field < a → Seeking S u a (Some next) (field_at t next sibling_field)
  seek_on f l =
      let h = seeking_row f in
      record {
        from = suc h.least.letter;
        holder = child h.least.letter next h.least.child;
        low = omega (arith, h.letter);
        next_is = h.next;
      }

  pub seek_here : (next ≡ absent → ⊥) → a ≤ field_at t next letter_field → Sought S u a before (Some next)
  seek_here f l =
      let h = (seeking_row f).least in
      let k : a ≤ h.letter = omega (arith, (seeking_row f).letter) in
      record {
        from = w.from;
        holder = w.holder;
        low = w.low;
        gap = λ d i j. h.first d i (omega arith);
        next_is = sym (ap found (child_from_is S u a next (record {
          letter = h.letter;
          low = k;
          high = h.high;
          child = h.child;
          first = λ d i j. h.first d (omega (arith, w.low)) j;
        })));
      }

  pub seek_end : next ≡ absent → Sought S u a before None
  seek_end e =
      let h = no_more τ u w.next_is e in
      record {
        from = w.from;
        holder = w.holder;
        low = w.low;
        gap = λ d i j. h d i;
        next_is = sym (ap found (child_from_no S u a (λ d i j. h d (omega (arith, w.low)))));
      }

  -- where no child from `from` on comes before a
  pub seek_gap : NoChild S u w.from a → Sought S u a before (present next)
  seek_gap gap = go (ℕ_discrete next absent)
    where
      go : Dec (next ≡ absent) → Sought S u a before (present next)
      go (yes e) = rw (present_none next e) (seek_end e)
      go (no d) =
          let h = seeking_row d in
          let k : ¬ (h.least.letter < a) = λ l. none_or_some (gap h.least.letter h.least.low l) h.least.child in
          rw (present_here next d) (seek_here d (omega (arith, h.letter)))

-- the place of the letter a by what is known of the children before it
module _ {X S : Words} {t : List ℕ} (τ : Tree X S t) {u : Word} {a : ℕ} where
  -- that by b is the last of them
  pub place_after : {b q next : ℕ} → find S (snoc u b) ≡ some q → b < a → NoChild S u (suc b) a → next ≡ field_at t q sibling_field
      → Sought S u a (Some q) (present next)
  place_after {b} {q} e l gap i =
      seek_gap τ (record {
        from = suc b;
        holder = child b q e;
        low = l;
        next_is = i ∙ sibling_of τ u b e;
      })
      gap

  -- there is none
  pub place_first : {p next : ℕ} → p < length S → u ≡ word S p → NoChild S u 0 a → next ≡ field_at t p child_field
      → Sought S u a None (present next)
  place_first {p} l e gap i =
      seek_gap τ (record {
        from = 0;
        holder = own;
        low = omega arith;
        next_is = i ∙ τ.children p l ∙ ap (λ (v : Word). stored (first_child S v)) (sym e);
      })
      gap

-- the child by a, where the search ended
module _ {X S : Words} {t : List ℕ} (τ : Tree X S t) {u : Word} {a : ℕ} {before next : Option ℕ} (s : Sought S u a before next) where
  pub sought_row : {q : ℕ} → Some q ≡ next → Child S t u a q
  sought_row {q} f = row_of τ (child_from_some S u a q (some_is _ (f ∙ s.next_is)))

  -- the pointer that a row stores
  pub sought_stored : unwrap_or next absent ≡ stored (child_from S u a)
  sought_stored = ap (λ (o : Option ℕ). unwrap_or o absent) s.next_is ∙ stored_back (child_from S u a)

  pub sought_small : unwrap_or next absent ≤ absent
  sought_small = go (ask (child_from S u a))
    where
      go : Asked (child_from S u a) → unwrap_or next absent ≤ absent
      go (got n e) = let l = found_small τ _ (child_from_some S u a n e).child in omega (arith, sought_stored ∙ ap stored e)
      go (lacks e) = omega (arith, sought_stored ∙ ap stored e)

  pub there : {q : ℕ} → Some q ≡ next → field_at t q letter_field ≡ a → find S (snoc u a) ≡ some q
  there f e =
      let h = sought_row f in
      let i : h.least.letter ≡ a = sym h.letter ∙ e in
      ap (λ (y : ℕ). find S (snoc u y)) (sym i) ∙ h.least.child

  pub not_there : a < letter_values → ((q : ℕ) → Some q ≡ next → field_at t q letter_field ≡ a → ⊥) → find S (snoc u a) ≡ none
  not_there byte f = none_unless _ (λ q e. absurd_child q e)
    where
      absurd_child : (q : ℕ) → find S (snoc u a) ≡ some q → ⊥
      absurd_child q e =
          let i : Some q ≡ next = sym (s.next_is ∙ ap found (child_from_is S u a q (record { letter = a; low = omega arith; high = byte; child = e; first = λ d l m. absurd (omega arith) }))) in
          let h = sought_row i in
          f q i (h.letter ∙ same_letter h)
        where
          same_letter : (h : Child S t u a q) → h.least.letter ≡ a
          same_letter h = go (dec_lt a h.least.letter)
            where
              go : Dec (a < h.least.letter) → h.least.letter ≡ a
              go (yes l) = none_or_some (h.least.first a (omega arith) l) e
              go (no l) = omega (arith, h.least.low)
