-- Jump and place, over what the calls tell and leave: each undoes the other, and a jump goes where first and next lead.
use mathlib.Core.Path.{◌≡◌, refl, sym, ap, ◌∙◌}
use mathlib.Core.Bool.{true}
use mathlib.Core.Option.{Option, none, some}
use mathlib.Core.List.{List, [], ◌∷◌, head?}
use Prim.Native.Nat.{ℕ, zero, suc, ◌≤◌, ◌<◌}
use native.Mathlib.Omega.{arith}
use borrow.Author.Tests.{ltb-true, leb-true, lt-ltb, le-ltb}
use lib.Dec.{leb, ltb}
use lib.ListN.{length, get_or, get_elem?, take, drop}
use lib.Seq.{split_at, drop-cons, length-take-le, take-append_seam}
use Rattle.meaning.specs.Numbers.{most_counted}
use Rattle.meaning.specs.Words.{Word, Words, Reading, find}
use Rattle.meaning.specs.Table.{over}
use Rattle.meaning.specs.Readings.{readings, is_nonempty, accepted, count_at}
use Rattle.meaning.specs.Plain.{Dictionary, Allowed}
use Rattle.meaning.proofs.Lists.{some_at, head-drop}
use Rattle.meaning.proofs.Numbers.{number_at, at_number}
use Rattle.records.specs.Run.{Run, ran}
use Rattle.records.specs.Told.{Told, answer, refusal}
use Rattle.numbering.specs.Places.{placed}
use Rattle.numbering.proofs.Stretches.{exact_count}
use Rattle.judging.specs.Order.{◌and_then◌, list_refusal, counted_refusal, unread_refusal, number_refusal, is_given, given_refusal, fit_refusal, first_refusal, jump_refusal, place_refusal}
use Rattle.orgamish.specs.Calls.{told_by, left_by, length_of, number_of, listed, first_tells, first_leaves, next_tells, next_leaves, jump_tells, jump_leaves, place_tells}
use Rattle.orgamish.specs.Answers.{first_told, place_told}
use Rattle.orgamish.specs.Listings.{Outcome, outcome, words_told, next_times}
use Rattle.std.specs.Prelude.{Ok}
use Rattle.judging.proofs.Orders.{greatest_before_number, greatest_before_words}
use Rattle.judging.proofs.Cleared.{none_first, none_second, test_true, counted_lists, counted_below, counted_exact}
use Rattle.orgamish.proofs.Called.{Came, came_tells, came_leaves, tells_answer, then_comes}
use Rattle.orgamish.proofs.Listings.{elem_fits, given_reads}
use Rattle.orgamish.proofs.Placings.{placed_number, given_number}
use Rattle.orgamish.proofs.Moves.{over_itself}
use Rattle.orgamish.proofs.Demands.{over_long, fits_buffer, first_call, next_call}

pub number_found : {n : ℕ} (o : Option ℕ) → number_of o ≡ n ∷ [] → o ≡ some n
number_found none e = let z : ◌≡◌ {A = ℕ} 0 1 = cc in absurd (omega arith)
number_found (some m) e = cc

-- the words X of an accepted dictionary
module _ {run : Run} {X : Words} {end : ℕ} (is : run ≡ ran X end) (allowed : Allowed X) (tb : List ℕ) (t : Word) (ss cs : List ℕ) where
  words : Dictionary X
  words = allowed.storable.dictionary

  abbrev R : List Reading
  R = readings X t

  module _ (clear : counted_refusal X tb t ss cs ≡ 0) where
    count : count_at X t (length t) ≡ length R
    count = exact_count X t (length t) (counted_exact X tb t ss cs clear)

    -- the tests of a jump from 21 on come to m
    jump_came : (b : List ℕ) (n : ℕ) {m : ℕ} → number_refusal X t n and_then fit_refusal (get_elem? R n) b ≡ m
        → Came (λ Y. jump_refusal Y tb t ss cs b n) run X m
    jump_came b n e = record {
      end = end;
      is = is;
      comes = rw (counted_lists X tb t ss cs clear, counted_below X tb t ss cs clear) e;
    }

    there : (n : ℕ) → n < length R → number_refusal X t n ≡ 0
    there n h = rw (lt-ltb n (count_at X t (length t)) (omega (arith, count)))

    -- what jump tells and leaves where there is such a reading, and room for it
    jump_call : (b : List ℕ) (n : ℕ) (ns : Reading) → n < length R → get_elem? R n ≡ some ns → length ns ≤ length b
        → (jump_tells run tb t ss cs b n ≡ answer (1 ∷ length ns ∷ [])) × (jump_leaves run tb t ss cs b n ≡ over ns b)
    jump_call b n ns below at room =
        let fits : fit_refusal (get_elem? R n) b ≡ 0 = ap (λ (o : Option Reading). fit_refusal o b) at ∙ fits_buffer ns b room in
        let w = jump_came b n (then_comes (number_refusal X t n) (fit_refusal (get_elem? R n) b) (there n below) fits) in (
          sym (came_tells w (λ Y. length_of (get_elem? (readings Y t) n))) ∙ ap (λ (o : Option Reading). answer (length_of o)) at,
          sym (came_leaves w (λ Y. listed (get_elem? (readings Y t) n) b) b) ∙ ap (λ (o : Option Reading). listed o b) at,
        )

    -- .. and place, where the given words stand in the list
    place_call : (b : List ℕ) (k n : ℕ) → k ≤ length b → find R (take k b) ≡ some n → place_tells run tb t ss cs b k ≡ answer (n ∷ [])
    place_call b k n room at =
        let given : given_refusal X t b k ≡ 0 = given_number X words t b k room ∙ ap (λ (o : Option ℕ). placed_number (placed o)) at in
        let w : Came (λ Y. place_refusal Y tb t ss cs b k) run X 0 = record {
          end = end;
          is = is;
          comes = then_comes (counted_refusal X tb t ss cs) (given_refusal X t b k) clear given;
        } in
        sym (came_tells w (λ Y. number_of (find (readings Y t) (take k b)))) ∙ ap (λ (o : Option ℕ). answer (number_of o)) at

    -- past the last reading there is none
    pub past_refused : (b : List ℕ) (n : ℕ) → length R ≤ n → jump_tells run tb t ss cs b n ≡ refusal 21 0
    past_refused b n h =
        let none_there : number_refusal X t n ≡ 21 = rw (le-ltb n (count_at X t (length t)) (omega (arith, count))) in
        let w = jump_came b n (ap (λ (m : ℕ). m and_then fit_refusal (get_elem? R n) b) none_there) in
        sym (came_tells w (λ Y. length_of (get_elem? (readings Y t) n)))

    -- reading 0 is the first one, and is refused as that is
    pub jump_zero : accepted X t ≡ true → (b : List ℕ)
        → (jump_tells run tb t ss cs b 0 ≡ first_tells run tb t ss cs b) × (jump_leaves run tb t ss cs b 0 ≡ first_leaves run tb t ss cs b)
    jump_zero e b =
        let lists = counted_lists X tb t ss cs clear in
        let some_read = nonempty R e in
        let fits = ap (λ (o : Option Reading). fit_refusal o b) same in
        let jumps = jump_came b 0 (then_comes (number_refusal X t 0) (fit_refusal (get_elem? R 0) b) (there 0 some_read.0) fits) in
        let firsts : Came (λ Y. first_refusal Y tb t ss cs b) run X (fit_refusal (head? R) b) = record {
          end = end;
          is = is;
          comes =
              then_comes (list_refusal X tb t ss cs) (unread_refusal (head? R) and_then fit_refusal (head? R) b) lists
              (then_comes (unread_refusal (head? R)) (fit_refusal (head? R) b) some_read.1 refl);
        } in (
          sym (came_tells jumps (λ Y. length_of (get_elem? (readings Y t) 0)))
              ∙ ap (λ (o : Option Reading). told_by (fit_refusal (head? R) b) (length_of o)) same
              ∙ came_tells firsts (λ Y. length_of (head? (readings Y t))),
          sym (came_leaves jumps (λ Y. listed (get_elem? (readings Y t) 0) b) b)
              ∙ ap (λ (o : Option Reading). left_by (fit_refusal (head? R) b) (listed o b) b) same
              ∙ came_leaves firsts (λ Y. listed (head? (readings Y t)) b) b,
        )
      where
        same : get_elem? R 0 ≡ head? R
        same = sym (head-drop R 0)

        nonempty : (l : List Reading) → is_nonempty l ≡ true → (0 < length l) × (unread_refusal (head? l) ≡ 0)
        nonempty [] q = let z : ◌≡◌ {A = ℕ} 0 1 = cc in absurd (omega arith)
        nonempty (x ∷ l) q = (omega arith, refl)

    -- first, and then n times next, stands at reading n
    record Reached (n : ℕ) (b : List ℕ) (o : Outcome) : Type 0 where
      told : o.told ≡ answer (1 ∷ length (get_or R n []) ∷ [])
      words : take (length (get_or R n [])) o.buffer ≡ get_or R n []
      long : length o.buffer ≡ length b

    fits : (n : ℕ) → n < length R → length (get_or R n []) ≤ length t
    fits n h = elem_fits X words t n (get_or R n []) (some_at R n [] h)

    -- a call that wrote it over a buffer as long as b
    at_reading : (n : ℕ) (b before : List ℕ) {told : Told} {after : List ℕ} → length before ≡ length b
        → length (get_or R n []) ≤ length before → told ≡ answer (1 ∷ length (get_or R n []) ∷ []) → after ≡ over (get_or R n []) before
        → Reached n b (outcome told after)
    at_reading n b before long room e f = record {
      told = e;
      words = rw f (take-append_seam (get_or R n []) (drop (length (get_or R n [])) before));
      long = rw f (over_long (get_or R n []) before room ∙ long);
    }

    reached : (b : List ℕ) → length t ≤ length b → (n : ℕ) → n < length R → Reached n b (next_times run tb t ss cs n b)
    reached b room zero h =
        let (told, left) = first_call is allowed tb t ss cs (counted_lists X tb t ss cs clear) (drop 1 R) (get_or R 0 []) (split_at R 0 [] h) b
        (omega (arith, fits 0 h)) in
        at_reading 0 b b refl (omega (arith, fits 0 h)) told left
    reached b room (suc n) h =
        let ρ = reached b room n (omega arith) in
        let o = next_times run tb t ss cs n b in
        let more : head? (drop (suc n) R) ≡ some (get_or R (suc n) []) = ap head? (drop-cons R (suc n) [] h) in
        let fit : length (get_or R (suc n) []) ≤ length o.buffer = omega (arith, fits (suc n) h, ρ.long) in
        let (told, left) = next_call is allowed tb t ss cs (counted_lists X tb t ss cs clear) (drop (suc n) R) (take n R) (get_or R n [])
        (split_at R n [] (omega arith)) o.buffer ρ.words (omega (arith, ρ.long))
        (ap (λ (q : Option Reading). fit_refusal q o.buffer) more ∙ fits_buffer (get_or R (suc n) []) o.buffer fit) in
        let given : words_told o.told.values ≡ length (get_or R n []) = ap (λ (q : Told). words_told q.values) ρ.told in
        at_reading (suc n) b o.buffer ρ.long fit
        (ap (next_tells run tb t ss cs o.buffer) given ∙ told ∙ ap (λ (q : Option Reading). answer (length_of q)) more)
        (ap (next_leaves run tb t ss cs o.buffer) given ∙ left ∙ ap (λ (q : Option Reading). listed q o.buffer) more)

  -- 2^64 - 1 readings or more are refused by either call, whatever the number and the words
  pub greatest_refused : list_refusal X tb t ss cs ≡ 0 → most_counted ≤ length R → (b : List ℕ) (n k : ℕ)
      → (jump_tells run tb t ss cs b n ≡ refusal 22 0) × (place_tells run tb t ss cs b k ≡ refusal 22 0)
  greatest_refused lists h b n k =
      let jumps : Came (λ Y. jump_refusal Y tb t ss cs b n) run X 22 =
      record { end = end; is = is; comes = greatest_before_number X tb t ss cs lists h b n } in
      let places : Came (λ Y. place_refusal Y tb t ss cs b k) run X 22 =
      record { end = end; is = is; comes = greatest_before_words X tb t ss cs lists h b k } in (
        sym (came_tells jumps (λ Y. length_of (get_elem? (readings Y t) n))),
        sym (came_tells places (λ Y. number_of (find (readings Y t) (take k b)))),
      )

  -- a jump that told k words
  module _ (b : List ℕ) (n k : ℕ) (e : jump_tells run tb t ss cs b n ≡ first_told (Ok k)) where
    passed : (jump_refusal X tb t ss cs b n ≡ 0) × (length_of (get_elem? R n) ≡ 1 ∷ k ∷ [])
    passed = tells_answer (λ Y. jump_refusal Y tb t ss cs b n) (λ Y. length_of (get_elem? (readings Y t) n)) is e

    clear : counted_refusal X tb t ss cs ≡ 0
    clear = none_first (counted_refusal X tb t ss cs) (number_refusal X t n and_then fit_refusal (get_elem? R n) b) passed.0

    below : n < length R
    below =
        let rest = none_second (counted_refusal X tb t ss cs) (number_refusal X t n and_then fit_refusal (get_elem? R n) b) passed.0 in
        let there = none_first (number_refusal X t n) (fit_refusal (get_elem? R n) b) rest in
        omega (arith, count clear, ltb-true n (count_at X t (length t)) (test_true (ltb n (count_at X t (length t))) 20 there))

    abbrev ns : Reading
    ns = get_or R n []

    long : k ≡ length ns
    long = let q = ap length_of (sym (some_at R n [] below)) ∙ passed.1 in cc

    room : length ns ≤ length b
    room =
        let rest = none_second (counted_refusal X tb t ss cs) (number_refusal X t n and_then fit_refusal (get_elem? R n) b) passed.0 in
        let fits = none_second (number_refusal X t n) (fit_refusal (get_elem? R n) b) rest in
        let q : fit_refusal (some ns) b ≡ 0 = ap (λ (o : Option Reading). fit_refusal o b) (sym (some_at R n [] below)) ∙ fits in
        leb-true (length ns) (length b) (test_true (leb (length ns) (length b)) 13 q)

    -- the reading in the list was written
    jumped : jump_leaves run tb t ss cs b n ≡ over ns b
    jumped = (jump_call clear b n ns below (some_at R n [] below) room).1

    -- place of jump n is n
    pub place_of_jump : place_tells run tb t ss cs (jump_leaves run tb t ss cs b n) k ≡ place_told (Ok n)
    place_of_jump =
        ap (λ (l : List ℕ). place_tells run tb t ss cs l k) jumped
        ∙ place_call clear (over ns b) k n (omega (arith, long, over_long ns b room, room))
        (ap (λ (i : ℕ). find R (take i (over ns b))) long
        ∙ ap (find R) (take-append_seam ns (drop (length ns) b))
        ∙ number_at X t n below refl)

    -- jump n is first, and then n times next, where the buffer has room for all readings
    pub jump_is_nexts : length t ≤ length b → let o = next_times run tb t ss cs n b in
        (o.told ≡ first_told (Ok k)) × (take k o.buffer ≡ take k (jump_leaves run tb t ss cs b n))
    jump_is_nexts h =
        let ρ = reached clear b h n below in (
          ρ.told ∙ ap (λ (i : ℕ). answer (1 ∷ i ∷ [])) (sym long),
          rw (long, jumped) (ρ.words ∙ sym (take-append_seam ns (drop (length ns) b))),
        )

  -- a place that was told: the jump there writes the reading that was given, to any buffer with room for it
  pub jump_to_place : (b : List ℕ) (k n : ℕ) → place_tells run tb t ss cs b k ≡ place_told (Ok n) → (c : List ℕ) → k ≤ length c
      → (jump_tells run tb t ss cs c n ≡ first_told (Ok k)) × (jump_leaves run tb t ss cs c n ≡ over (take k b) c)
  jump_to_place b k n e c h =
      let (z, v) = tells_answer (λ Y. place_refusal Y tb t ss cs b k) (λ Y. number_of (find (readings Y t) (take k b))) is e in
      let clear = none_first (counted_refusal X tb t ss cs) (given_refusal X t b k) z in
      let given = test_true (is_given X t b k) 12 (none_second (counted_refusal X tb t ss cs) (given_refusal X t b k) z) in
      let room = (given_reads X t b k given).0 in
      let (below, at) = at_number X t n (take k b) (number_found (find R (take k b)) v) in
      let long = length-take-le k b room in
      let (told, left) = jump_call clear c n (take k b) below at (omega (arith, long)) in
      (told ∙ ap (λ (i : ℕ). answer (1 ∷ i ∷ [])) long, left)

  -- .. and leaves the buffer that it was given in as it was
  pub jump_back : (b : List ℕ) (k n : ℕ) → place_tells run tb t ss cs b k ≡ place_told (Ok n) → k ≤ length b
      → jump_leaves run tb t ss cs b n ≡ b
  jump_back b k n e h = (jump_to_place b k n e b h).1 ∙ over_itself k b h
