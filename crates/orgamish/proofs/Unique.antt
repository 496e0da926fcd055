-- Dictionaries that need no listing, over what the public calls tell and leave: under the map no word is a proper suffix of
-- another, or none is a proper prefix.
use mathlib.Core.Path.{◌≡◌, refl, sym, ap, ap₂, ◌∙◌, subst}
use mathlib.Core.Logic.{◌↔◌, ◌⊎◌, ⊎_elim}
use mathlib.Core.Bool.{Bool}
use mathlib.Core.Option.{Option}
use mathlib.Core.List.{List, [], ◌∷◌, ◌++◌, map, map-append, reverse, reverse-cons}
use Prim.Native.Nat.{ℕ, zero, suc, ◌≤◌, ◌<◌}
use native.Mathlib.Omega.{arith}
use borrow.Author.Tests.{ne_eqb}
use lib.Dec.{ltb}
use lib.ListN.{length, get_or, take, drop, length-map, get_or-append}
use Rattle.meaning.specs.Numbers.{letter_values, most_counted}
use Rattle.meaning.specs.Words.{Word, Words, Reading, find}
use Rattle.meaning.specs.Automaton.{longest_chain}
use Rattle.meaning.specs.Table.{table, narrow_table, over}
use Rattle.meaning.specs.Readings.{readings, count_at, count_column}
use Rattle.meaning.specs.Listing.{next_reading}
use Rattle.meaning.specs.Plain.{Dictionary, Allowed, ProperPrefix, ProperSuffix, NoneIs, Unambiguous}
use Rattle.meaning.proofs.Readings.{is_reading_is}
use Rattle.meaning.proofs.Columns.{up_to-length, up_to_at, column_at}
use Rattle.meaning.proofs.Numbers.{at_number}
use Rattle.meaning.proofs.Unique.{suffix_free_r, prefix_free_r, suffix_free_unambiguous, prefix_free_unambiguous, at_most_one, count_at_most_one, none_after}
use Rattle.letters.specs.Letters.{letter, mapped, Under, ReadsUnder}
use Rattle.records.specs.Run.{Run, ran}
use Rattle.records.specs.Told.{Told, answer, refusal}
use Rattle.columns.specs.Columns.{Scanned}
use Rattle.judging.specs.Under.{words_under}
use Rattle.judging.specs.Order.{◌and_then◌, build_refusal, move_refusal, scan_refusal, list_refusal, greatest_refusal, given_refusal, fit_refusal, next_refusal, place_refusal, is_given}
use Rattle.judging.proofs.Cleared.{none_first, none_second, test_true, scanned}
use Rattle.orgamish.specs.Calls.{flag, measures, tells, length_of, listed, number_of, build_tells, widen_tells, narrow_tells, scan_tells, scan_leaves_counts, next_tells, next_leaves, jump_tells, place_tells}
use Rattle.orgamish.specs.Answers.{build_told, scan_told, next_told, place_told}
use Rattle.std.specs.Prelude.{Option as Maybe, None, Result, Ok}
use Rattle.letters.specs.declared.refusal.Refusal.{Refusal}
use Rattle.orgamish.proofs.Called.{Came, came_tells, came_leaves, tells_clear, tells_answer, then_comes, counted_accepted}
use Rattle.orgamish.proofs.Listings.{given_reads}
use Rattle.orgamish.proofs.Determined.{next_decides}
use Rattle.orgamish.proofs.Demands.{tells_accepted, counts_readings, next_came}
use Rattle.orgamish.proofs.Alike.{allowed_under, written, W, reads, none_alike}
use Rattle.orgamish.proofs.Jumps.{number_found, past_refused}

-- the words X of an accepted dictionary d under the map m; `W m d bytes is` are their bytes
module _ (m d : List ℕ) (bytes : (x : ℕ) → letter m x < letter_values) {X : Words} {end : ℕ} (is : words_under m d ≡ ran X end) where
  abbrev raw : Words
  raw = W m d bytes is

  allowed : Allowed X
  allowed = allowed_under m d bytes is

  words : Dictionary X
  words = allowed.storable.dictionary

  under : (So : Word → Word → Type 0) → NoneIs So X ↔ NoneIs (Under So m) raw
  under = none_alike m d bytes is

  -- r is at most 1 exactly where no word is a proper suffix of another
  told_r : (test : Words → ℕ) {w s r : ℕ} → build_told (Ok (record { words = w; states = s; longest = r })) ≡ tells test measures (words_under m d)
      → (r ≤ 1) ↔ NoneIs (Under ProperSuffix m) raw
  told_r test {r = r} e =
      let (z, v) = tells_answer test measures is (sym e) in
      let q : r ≡ longest_chain X = cc in
      let (f, g) = suffix_free_r X words in
      (λ h. (under ProperSuffix).0 (g (omega arith)), λ free. omega (arith, f ((under ProperSuffix).1 free)))

  module _ (tb : List ℕ) (w s r : ℕ) where
    pub build_r : build_told (Ok (record { words = w; states = s; longest = r })) ≡ build_tells (words_under m d) tb → (r ≤ 1) ↔ NoneIs (Under ProperSuffix m) raw
    build_r = told_r (λ Y. build_refusal (table Y) tb)

    pub widen_r : (nt : List ℕ) → build_told (Ok (record { words = w; states = s; longest = r })) ≡ widen_tells (words_under m d) tb nt
        → (r ≤ 1) ↔ NoneIs (Under ProperSuffix m) raw
    widen_r nt = told_r (λ Y. move_refusal (narrow_table Y) (table Y) nt tb)

    pub narrow_r : (nt : List ℕ) → build_told (Ok (record { words = w; states = s; longest = r })) ≡ narrow_tells (words_under m d) tb nt
        → (r ≤ 1) ↔ NoneIs (Under ProperSuffix m) raw
    narrow_r nt = told_r (λ Y. move_refusal (table Y) (narrow_table Y) tb nt)

  -- one of the two conditions is met
  module _ (free : NoneIs (Under ProperSuffix m) raw ⊎ NoneIs (Under ProperPrefix m) raw) where
    one : Unambiguous X
    one =
        ⊎_elim
        (λ f. suffix_free_unambiguous X words ((under ProperSuffix).1 f))
        (λ f. prefix_free_unambiguous X words ((under ProperPrefix).1 f))
        free

    -- every text has at most one reading
    pub one_reading : (u : List ℕ) (ns ms : Reading) → ReadsUnder m raw u ns → ReadsUnder m raw u ms → ns ≡ ms
    one_reading u ns ms p q = one (mapped m u) ns ms ((reads m d bytes is u ns).1 p) ((reads m d bytes is u ms).1 q)

    -- the calls on the bytes u
    module _ (tb u ss cs : List ℕ) where
      abbrev t : Word
      t = mapped m u

      abbrev run : Run
      run = words_under m d

      count_one : (i : ℕ) → i ≤ length u → count_at X t i ≤ 1
      count_one i h = count_at_most_one X words one t i (omega (arith, length-map u (letter m)))

      count_end : count_at X t (length t) ≤ 1
      count_end = count_at_most_one X words one t (length t) (omega arith)

      -- 22 does not come
      pub not_greatest : greatest_refusal X t ≡ 0
      not_greatest = rw (ne_eqb (count_at X t (length t)) most_counted (λ q. omega (arith, count_end)))

      -- where next is not refused
      ended : (b : List ℕ) (k : ℕ) → next_refusal X tb t ss cs b k ≡ 0
          → (next_tells run tb t ss cs b k ≡ next_told (Ok None)) × (next_leaves run tb t ss cs b k ≡ b)
      ended b k clear =
          let w : Came (λ Y. next_refusal Y tb t ss cs b k) run X 0 = record { end = end; is = is; comes = clear } in
          let rest = none_second (list_refusal X tb t ss cs) (given_refusal X t b k and_then fit_refusal (next_reading X t (take k b)) b) clear in
          let given = test_true (is_given X t b k) 12 (none_first (given_refusal X t b k) (fit_refusal (next_reading X t (take k b)) b) rest) in
          let last = none_after X words one t (take k b) ((is_reading_is X t (take k b)).0 (given_reads X t b k given).1) in (
            sym (came_tells w (λ Y. length_of (next_reading Y t (take k b)))) ∙ ap (λ (o : Option Reading). answer (length_of o)) last,
            sym (came_leaves w (λ Y. listed (next_reading Y t (take k b)) b) b) ∙ ap (λ (o : Option Reading). listed o b) last,
          )

      -- the scan: every count is 0 or 1, and that of the text 1 exactly where it is accepted
      module _ (verdict : Bool) (f c p : ℕ) (e : scan_told (Ok (record { accepted = verdict; farthest = f; count = c; probes = p })) ≡ scan_tells run tb t ss cs) where
        clear : scan_refusal X tb t ss cs ≡ 0
        clear = tells_clear (λ Y. scan_refusal Y tb t ss cs) _ is (ap (λ (a : Told). a.number) (sym e))

        pub one_count : c ≡ flag verdict
        one_count =
            counts_readings is allowed tb t ss cs clear verdict f c p e
            ∙ zero_or_one (count_at X t (length t)) count_end
            ∙ ap flag (counted_accepted X t)
            ∙ ap flag (sym (tells_accepted is allowed tb t ss cs clear verdict f c p e))
          where
            zero_or_one : (n : ℕ) → n ≤ 1 → n ≡ flag (ltb 0 n)
            zero_or_one zero h = refl
            zero_or_one (suc zero) h = refl
            zero_or_one (suc (suc n)) h = absurd (omega arith)

        pub one_column : (i : ℕ) → i ≤ length u → get_or (scan_leaves_counts run tb t ss cs) i 0 ≤ 1
        one_column i h =
            let w : Came (λ Y. scan_refusal Y tb t ss cs) run X 0 = record { end = end; is = is; comes = clear } in
            let inside : i < suc (length t) = omega (arith, length-map u (letter m)) in
            let stands : get_or (over (count_column X t) cs) i 0 ≡ count_at X t i
            = get_or-append (count_column X t) (drop (length (count_column X t)) cs) 0 i
            (omega (arith, up_to-length (count_at X t) (suc (length t))))
            ∙ up_to_at (count_at X t) (suc (length t)) i inside in
            omega (arith, count_one i h, stands, ap (λ (l : List ℕ). get_or l i 0) (came_leaves w (λ Y. over (count_column Y t) cs) cs))

      -- so with columns that the other calls do not refuse
      module _ (clear : list_refusal X tb t ss cs ≡ 0) where
        pub one_lent : (i : ℕ) → i ≤ length u → get_or cs i 0 ≤ 1
        one_lent i h =
            let σ : Scanned X t tb ss cs = scanned allowed clear in
            let inside : i < suc (length t) = omega (arith, length-map u (letter m)) in
            omega (arith, count_one i h, column_at (count_at X t) (suc (length t)) cs σ.columns.counts i inside)

        -- next, given that reading, is not refused: it tells End, and leaves the buffer as it was
        pub next_end : (b : List ℕ) (k : ℕ) → k ≤ length b → ReadsUnder m raw u (take k b)
            → (next_tells run tb t ss cs b k ≡ next_told (Ok None)) × (next_leaves run tb t ss cs b k ≡ b)
        next_end b k h r =
            let reading = (reads m d bytes is u (take k b)).1 r in
            let fits = ap (λ (o : Option Reading). fit_refusal o b) (none_after X words one t (take k b) reading) in
            ended b k (next_came is allowed tb t ss cs clear b k h ((is_reading_is X t (take k b)).1 reading) fits).comes

        -- no reading stands past 0
        pub jump_past : (b : List ℕ) (n : ℕ) → 0 < n → jump_tells run tb t ss cs b n ≡ refusal 21 0
        jump_past b n h =
            let counted = then_comes (list_refusal X tb t ss cs) (greatest_refusal X t) clear not_greatest in
            past_refused is allowed tb t ss cs counted b n (omega (arith, at_most_one X words one t))

      -- whatever next answers that is no refusal is End, and leaves the buffer as it was
      pub next_only_ends : (b : List ℕ) (k : ℕ) (a : Result (Maybe ℕ) Refusal) (after : List ℕ)
          → (next_told a ≡ next_tells run tb t ss cs b k) × (after ≡ next_leaves run tb t ss cs b k) → (next_told a).number ≡ 0
          → (a ≡ Ok None) × (after ≡ b)
      next_only_ends b k a after allows z =
          let clear = tells_clear (λ Y. next_refusal Y tb t ss cs b k) _ is (ap (λ (q : Told). q.number) (sym allows.0) ∙ z) in
          let (told, left) = ended b k clear in
          next_decides run tb t ss cs b k a (Ok None) after b allows (sym told, sym left)

      -- the only number that place tells is 0
      pub place_zero : (b : List ℕ) (k n : ℕ) → place_told (Ok n) ≡ place_tells run tb t ss cs b k → n ≡ 0
      place_zero b k n e =
          let (z, v) = tells_answer (λ Y. place_refusal Y tb t ss cs b k) (λ Y. number_of (find (readings Y t) (take k b))) is (sym e) in
          let (below, at) = at_number X t n (take k b) (number_found (find (readings X t) (take k b)) v) in
          omega (arith, at_most_one X words one t)

-- the words written backwards
mapped-reverse : (m u : List ℕ) → mapped m (reverse u) ≡ reverse (mapped m u)
mapped-reverse m [] = refl
mapped-reverse m (x ∷ u) =
    ap (mapped m) (reverse-cons x u)
    ∙ map-append (letter m) (reverse u) (x ∷ [])
    ∙ ap (◌++ (letter m x ∷ [])) (mapped-reverse m u)
    ∙ sym (reverse-cons (letter m x) (mapped m u))

words-reverse : (m : List ℕ) (Y : Words) → map (mapped m) (map reverse Y) ≡ map reverse (map (mapped m) Y)
words-reverse m [] = refl
words-reverse m (v ∷ Y) = ap₂ ◌∷◌ (mapped-reverse m v) (words-reverse m Y)

-- a dictionary d, and e with its words written backwards: build tells of e that r is at most 1 exactly where no word of d is a
-- proper prefix of another
pub backwards_r : (m d e : List ℕ) (bytes : (x : ℕ) → letter m x < letter_values) {X Y : Words} {end last : ℕ}
    (is : words_under m d ≡ ran X end) (back : words_under m e ≡ ran Y last) → W m e bytes back ≡ map reverse (W m d bytes is)
    → (tb : List ℕ) (w s r : ℕ) → build_told (Ok (record { words = w; states = s; longest = r })) ≡ build_tells (words_under m e) tb
    → (r ≤ 1) ↔ NoneIs (Under ProperPrefix m) (W m d bytes is)
backwards_r m d e bytes {X} {Y} is back q tb w s r told =
    let reversed : Y ≡ map reverse X
    = (written m e bytes back).letters
    ∙ ap (map (mapped m)) q
    ∙ words-reverse m (W m d bytes is)
    ∙ ap (map reverse) (sym (written m d bytes is).letters) in
    let (z, v) = tells_answer (λ Z. build_refusal (table Z) tb) measures back (sym told) in
    let long : r ≡ longest_chain (map reverse X) = let l : r ≡ longest_chain Y = cc in l ∙ ap longest_chain reversed in
    let (f, g) = prefix_free_r X (subst Dictionary reversed (allowed_under m e bytes back).storable.dictionary) in
    let (h, k) = none_alike m d bytes is ProperPrefix in
    (λ l. h (g (omega arith)), λ free. omega (arith, f (k free)))
