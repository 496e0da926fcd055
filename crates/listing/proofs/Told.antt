-- What first and next answer, and what they leave in the buffer.
use mathlib.Core.Path.{◌≡◌, refl, sym, ap, ◌∙◌}
use mathlib.Core.Bool.{true, false}
use mathlib.Core.Option.{Option as Maybe, none, some}
use mathlib.Core.List.{List, [], ◌∷◌, ◌++◌, append_assoc, head?}
use Prim.Native.Nat.{ℕ, suc, ◌+◌, ◌-◌, ◌≤◌, ◌<◌}
use native.Mathlib.Omega.{arith}
use borrow.Author.Tests.{le-leb, lt-leb}
use lib.Dec.{leb}
use lib.ListN.{length, get_or, take, drop, length-append, length-take, length-drop}
use lib.Seq.{drop_at, length-take-le}
use Rattle.std.proofs.lemmas.List.{drop-take}
use Rattle.std.specs.List.{copy_within}
use Rattle.std.specs.Prelude.{None, Some, Ok, Err}
use Rattle.meaning.specs.Words.{Word, Words, Reading, snoc, size}
use Rattle.meaning.specs.Table.{over, depth_field, word_field}
use Rattle.meaning.specs.Readings.{readings, is_nonempty, count_at}
use Rattle.meaning.specs.Listing.{first_reading}
use Rattle.meaning.proofs.Lists.{snoc-length}
use Rattle.meaning.proofs.Columns.{column_at, column_long}
use Rattle.meaning.proofs.Counts.{count_readable, count_unreadable}
use Rattle.meaning.proofs.First.{first_short, first_is-head}
use Rattle.tree.specs.Layout.{field_at, HasRow}
use Rattle.tree.specs.Tree.{IsTable}
use Rattle.letters.specs.declared.refusal.Reason.TheVariants.{ShortBuffer}
use Rattle.listing.specs.Positions.{Readable, Whole, Giving}
use Rattle.listing.specs.Writing.{Written}
use Rattle.listing.specs.Changes.{IsChange}
use Rattle.listing.specs.Answers.{Answers}
use Rattle.listing.proofs.Steps.{word_row, word_size, word_number}

-- the three answers
pub answers_nothing : {o : Maybe Reading} (b : List ℕ) → o ≡ none → Answers o b b (Ok None)
answers_nothing b e = rw e (record { answers = refl; buffer = refl })

pub answers_short : {o : Maybe Reading} (ws : Reading) (b : List ℕ) → o ≡ some ws → length b < length ws → Answers o b b (Err ShortBuffer)
answers_short ws b e l =
    let f : leb (length ws) (length b) ≡ false = lt-leb _ _ l in
    rw e (record { answers = rw f; buffer = rw f })

pub answers_words : {o : Maybe Reading} (ws : Reading) (b : List ℕ) {a : List ℕ} {n : ℕ} → o ≡ some ws → length ws ≤ length b
    → Written ws b a n → Answers o b a (Ok (Some n))
answers_words ws b e l w =
    let f : leb (length ws) (length b) ≡ true = le-leb _ _ l in
    rw (e, w.count, w.list) (record { answers = rw f; buffer = rw f })

-- the whole text has a reading where its count is not 0
module _ {X : Words} {t : Word} {tb ss cs : List ℕ} {m : ℕ} (ω : Whole X t tb ss cs m) where
  pub whole_inside : m < length cs
  whole_inside = omega (arith, column_long (count_at X t) (suc (length t)) cs ω.scanned.columns.counts, ω.long)

  pub whole_count : get_or cs m 0 ≡ count_at X t m
  whole_count = column_at (count_at X t) (suc (length t)) cs ω.scanned.columns.counts m (omega (arith, ω.long))

  head_none : (l : List Reading) → is_nonempty l ≡ false → head? l ≡ none
  head_none [] e = refl
  head_none (x ∷ l) e = cc

  pub whole_none : get_or cs m 0 ≡ 0 → head? (readings X t) ≡ none
  whole_none z =
      head_none (readings X t) ((count_unreadable X t (length t)).1 (ap (count_at X t) (sym ω.long) ∙ sym whole_count ∙ z))

  module _ (f : get_or cs m 0 ≡ 0 → ⊥) where
    pub whole_readable : Readable X t tb ss cs m
    whole_readable = record {
      at = record { scanned = ω.scanned; place = omega (arith, ω.long) };
      reads = (count_readable X t m).1 (omega (arith, whole_count, f));
    }

    pub whole_first : head? (readings X t) ≡ some (first_reading X t m)
    whole_first =
        first_is-head X t (rw ω.long at whole_readable.reads) ∙ ap (λ (i : ℕ). some (first_reading X t i)) (sym ω.long)

-- the words kept are moved behind ws, and then ws is written before them
module _ (l : List ℕ) (kept k : ℕ) (low : kept ≤ k) (high : k ≤ length l) where
  kept-length : length (drop kept (take k l)) ≡ k - kept
  kept-length = omega (arith, length-drop kept (take k l), length-take k l)

  moved_over : (ws : Reading) {n : ℕ} → n ≡ length ws → n + (k - kept) ≤ length l
      → over ws (copy_within l kept k n) ≡ over (ws ++ drop kept (take k l)) l
  moved_over ws {n} e room =
      let run = drop kept (take k l) in
      let same : take (k - kept) (drop kept l) ≡ run
      = sym (drop-take kept (k - kept) l) ∙ ap (λ (j : ℕ). drop kept (take j l)) (omega arith) in
      let long : n + (k - kept) ≡ length (ws ++ run) = omega (arith, length-append ws run, kept-length) in
      let back : drop (length ws) (copy_within l kept k n) ≡ run ++ drop (n + (k - kept)) l
      = ap (λ (r : List ℕ). drop (length ws) (take n l ++ r ++ drop (n + (k - kept)) l)) same
      ∙ ap (drop (length ws)) (append_assoc (take n l) run (drop (n + (k - kept)) l))
      ∙ drop_at (take n l) (run ++ drop (n + (k - kept)) l) (length ws) (length-take-le n l (omega arith) ∙ e) in
      ap (λ (r : List ℕ). ws ++ r) back
      ∙ sym (append_assoc ws run (drop (n + (k - kept)) l))
      ∙ ap (λ (j : ℕ). ws ++ run ++ drop j l) long

-- the change made
module _ {X : Words} {t : Word} {tb ss cs l : List ℕ} {m k state end kept : ℕ} {ms : Reading}
    (g : Giving X t tb ss cs m l k) (χ : IsChange X t (take k l) state end kept ms) where
  ι : IsTable X tb
  ι = g.whole.scanned.table

  pub change_row : HasRow tb state
  change_row = word_row ι χ.word

  pub change_low : kept ≤ k
  change_low = omega (arith, χ.low, length-take k l)

  module _ {d : ℕ} (e : d ≡ field_at tb state depth_field) where
    is : d ≡ size X χ.number
    is = word_size ι χ.word e

    pub change_fits : d ≤ end
    change_fits = omega (arith, χ.fits, is)

    pub change_readable : Readable X t tb ss cs (end - d)
    change_readable = record {
      at = record { scanned = g.whole.scanned; place = omega (arith, χ.place) };
      reads = rw is χ.before;
    }

    module _ {n : ℕ} (q : n ≡ length (first_reading X t (end - d))) where
      pub front_inside : n < length cs
      front_inside = omega (
        arith,
        first_short X t (end - d),
        column_long (count_at X t) (suc (length t)) cs g.whole.scanned.columns.counts,
        χ.place,
      )

      long : n + 1 ≡ length (snoc (first_reading X t (end - d)) χ.number)
      long = omega (arith, snoc-length (first_reading X t (end - d)) χ.number)

      words : ms ≡ snoc (first_reading X t (end - d)) χ.number ++ drop kept (take k l)
      words = χ.is ∙ ap (λ (i : ℕ). snoc (first_reading X t (end - i)) χ.number ++ drop kept (take k l)) (sym is)

      pub change_length : length ms ≡ n + 1 + (k - kept)
      change_length = omega (
        arith,
        ap length words,
        length-append (snoc (first_reading X t (end - d)) χ.number) (drop kept (take k l)),
        long,
        kept-length l kept k change_low g.room,
      )

      pub change_written : {w : ℕ} {b a : List ℕ} → n + 1 + (k - kept) ≤ length l → w ≡ field_at tb state word_field
          → b ≡ copy_within l kept k (n + 1) → a ≡ over (snoc (first_reading X t (end - d)) w) b → Written ms l a (n + 1 + (k - kept))
      change_written {w} {b} room f p h = record {
        count = sym change_length;
        list =
            h
            ∙ ap (λ (r : ℕ). over (snoc (first_reading X t (end - d)) r) b) (word_number ι χ.word f)
            ∙ ap (over (snoc (first_reading X t (end - d)) χ.number)) p
            ∙ moved_over l kept k change_low g.room (snoc (first_reading X t (end - d)) χ.number) long room
            ∙ ap (λ (ws : Reading). over ws l) (sym words);
      }
