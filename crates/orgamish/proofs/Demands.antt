-- Demands 2 and 3 of document 01, what farthest is, and what a row tells of a position, over what the public calls tell and leave.
use mathlib.Core.Path.{◌≡◌, refl, sym, ap, ◌∙◌}
use mathlib.Core.Logic.{◌↔◌}
use mathlib.Core.Bool.{Bool, true}
use mathlib.Core.Option.{Option, some}
use mathlib.Core.List.Memᴰ
use mathlib.Core.List.{List, [], ◌∷◌, ◌++◌, head?, append_assoc}
use Prim.Native.Nat.{ℕ, zero, suc, ◌+◌, ◌*◌, ◌≤◌, ◌<◌}
use native.Mathlib.Omega.{arith}
use borrow.Author.Tests.{le-ltb, le-leb}
use lib.ListN.{length, get_or, get_elem?, take, drop, length-append, length-drop}
use lib.Seq.{get_or-take, get_or-append_seam, take-append_seam}
use Rattle.meaning.specs.Words.{Word, Words, Reading}
use Rattle.meaning.specs.Automaton.{chain}
use Rattle.meaning.specs.Table.{width, chain_field, table, over}
use Rattle.meaning.specs.Readings.{readings, accepted, capped, count_at, state_at, probes, farthest}
use Rattle.meaning.specs.Listing.{is_reading, next_reading}
use Rattle.meaning.specs.Plain.{Dictionary, Allowed, Star, Farthest, IsReading}
use Rattle.meaning.proofs.Rows.{table-length}
use Rattle.meaning.proofs.Readings.{accepted_is_star, accepted_has_reading, readings_are, is_reading_is}
use Rattle.meaning.proofs.Columns.{column_at, state_inside, words_ending}
use Rattle.meaning.proofs.Farthest.{farthest_is}
use Rattle.meaning.proofs.Next.{next_at}
use Rattle.records.specs.Run.{Run, ran}
use Rattle.records.specs.Told.{Told, answer, refusal}
use Rattle.columns.specs.Columns.{Scanned}
use Rattle.judging.specs.Order.{◌and_then◌, scan_refusal, list_refusal, unread_refusal, given_refusal, fit_refusal, first_refusal, next_refusal}
use Rattle.orgamish.specs.Calls.{flag, length_of, listed, scan_tells, first_tells, first_leaves, next_tells, next_leaves}
use Rattle.orgamish.specs.Answers.{scan_told}
use Rattle.orgamish.specs.Listings.{Heard, heard, go_on, listing_from, listing}
use Rattle.std.specs.Prelude.{Ok}
use Rattle.judging.proofs.Cleared.{scanned}
use Rattle.orgamish.proofs.Called.{Came, came_tells, came_leaves, then_comes}
use Rattle.orgamish.proofs.Listings.{reading_short}
use Rattle.orgamish.proofs.Determined.{flag_once}

-- what stands behind a place of a list
past_split : {A : Type 0} (Q : List A) (x : A) (L : List A) → get_elem? (Q ++ x ∷ L) (suc (length Q)) ≡ head? L
past_split [] x [] = refl
past_split [] x (y ∷ L) = refl
past_split (q ∷ Q) x L = past_split Q x L

snoc_split : {A : Type 0} {R : List A} (Q : List A) (x y : A) (L : List A) → R ≡ Q ++ x ∷ y ∷ L → R ≡ (Q ++ x ∷ []) ++ y ∷ L
snoc_split Q x y L e = e ∙ sym (append_assoc Q (x ∷ []) (y ∷ L))

pub over_long : (ws b : List ℕ) → length ws ≤ length b → length (over ws b) ≡ length b
over_long ws b h = omega (arith, length-append ws (drop (length ws) b), length-drop (length ws) b)

pub fits_buffer : (ws : Reading) (b : List ℕ) → length ws ≤ length b → fit_refusal (some ws) b ≡ 0
fits_buffer ws b h = rw (le-leb (length ws) (length b) h)

next_behind : (X : Words) (t : Word) (Q : List Reading) (ns : Reading) (L : List Reading) → readings X t ≡ Q ++ ns ∷ L
    → next_reading X t ns ≡ head? L
next_behind X t Q ns L e =
    let R = readings X t in
    ap (next_reading X t) (sym (ap (λ (l : List Reading). get_or l (length Q) []) e ∙ get_or-append_seam Q ns L []))
    ∙ next_at X t (length Q) (omega (arith, ap length e, length-append Q (ns ∷ L)))
    ∙ ap (λ (l : List Reading). get_elem? l (suc (length Q))) e
    ∙ past_split Q ns L

-- the words X of an accepted dictionary
module _ {run : Run} {X : Words} {end : ℕ} (is : run ≡ ran X end) (allowed : Allowed X) where
  words : Dictionary X
  words = allowed.storable.dictionary

  module _ (tb : List ℕ) (t : Word) (ss cs : List ℕ) where
    -- what an answer of the scan says
    module _ (clear : scan_refusal X tb t ss cs ≡ 0) (yes : Bool) (f c p : ℕ)
        (e : scan_told (Ok (record { accepted = yes; farthest = f; count = c; probes = p })) ≡ scan_tells run tb t ss cs) where
      abbrev values : Words → List ℕ
      values Y = flag (accepted Y t) ∷ farthest Y t ∷ count_at Y t (length t) ∷ probes Y t ∷ []

      told : flag yes ∷ f ∷ c ∷ p ∷ [] ≡ values X
      told =
          let came : Came (λ Y. scan_refusal Y tb t ss cs) run X 0 = record { end = end; is = is; comes = clear } in
          ap (λ (a : Told). a.values) (e ∙ sym (came_tells came values))

      pub tells_accepted : yes ≡ accepted X t
      tells_accepted = let flags : flag yes ≡ flag (accepted X t) = let q = told in cc in flag_once yes (accepted X t) flags

      -- demand 2: accepted exactly where the text is in X*
      pub accepts_star : (yes ≡ true) ↔ Star X t
      accepts_star =
          let star = accepted_is_star X words t in
          (λ y. star.0 (sym tells_accepted ∙ y), λ s. tells_accepted ∙ star.1 s)

      -- .. that is, where it has a reading
      pub accepts_reading : (yes ≡ true) ↔ ((ns : Reading) × IsReading X t ns)
      accepts_reading =
          let read = accepted_has_reading X words t in
          (λ y. read.0 (sym tells_accepted ∙ y), λ r. tells_accepted ∙ read.1 r)

      -- demand 3: the count is the number of readings, or 2^64 - 1 where there are more
      pub counts_readings : c ≡ capped (length (readings X t))
      counts_readings = let q = told in cc

      -- farthest is the longest prefix of the text that is also a prefix of some concatenation of words
      pub reads_farthest : Farthest X t f
      reads_farthest =
          let far : f ≡ farthest X t = let q = told in cc in
          (farthest_is X words t f).1 far

    module _ (clear : list_refusal X tb t ss cs ≡ 0) where
      -- the row of the state at position i tells how many words end there
      pub tells_ending : (i : ℕ) → i ≤ length t → get_or tb (width * get_or ss i 0 + chain_field) 0 ≡ length (chain X (take i t))
      tells_ending i h =
          let σ : Scanned X t tb ss cs = scanned allowed clear in
          let inside = state_inside X t i in
          ap (λ (s : ℕ). get_or tb (width * s + chain_field) 0) (column_at (state_at X t) (suc (length t)) ss σ.columns.states i (omega arith))
          ∙ sym (get_or-take (length (table X)) tb (width * state_at X t i + chain_field) 0 (omega (arith, table-length X)))
          ∙ ap (λ (T : List ℕ). get_or T (width * state_at X t i + chain_field) 0) σ.table.rows
          ∙ words_ending X t i

      -- demand 3: first and then next
      abbrev End : Told
      End = answer (0 ∷ [])

      first_came : (b : List ℕ) {n : ℕ} → let o = head? (readings X t) in unread_refusal o and_then fit_refusal o b ≡ n
          → Came (λ Y. first_refusal Y tb t ss cs b) run X n
      first_came b e = record {
        end = end;
        is = is;
        comes = then_comes (list_refusal X tb t ss cs) (unread_refusal (head? (readings X t)) and_then fit_refusal (head? (readings X t)) b) clear e;
      }

      pub next_came : (b : List ℕ) (k : ℕ) → k ≤ length b → is_reading X t (take k b) ≡ true → fit_refusal (next_reading X t (take k b)) b ≡ 0
          → Came (λ Y. next_refusal Y tb t ss cs b k) run X 0
      next_came b k h r e =
          let given : given_refusal X t b k ≡ 0 = rw (le-ltb (length b) k h, r) in
          record {
            end = end;
            is = is;
            comes = then_comes (list_refusal X tb t ss cs) (given_refusal X t b k and_then fit_refusal (next_reading X t (take k b)) b) clear
                (then_comes (given_refusal X t b k) (fit_refusal (next_reading X t (take k b)) b) given e);
          }

      reads : (L Q : List Reading) (ns : Reading) → readings X t ≡ Q ++ ns ∷ L → IsReading X t ns
      reads L Q ns e = (readings_are X words t ns).0 (rw e (Memᴰ.append_right Q (Memᴰ.head refl)))

      short : (L Q : List Reading) (ns : Reading) → readings X t ≡ Q ++ ns ∷ L → length ns ≤ length t
      short L Q ns e = reading_short X words t ns (reads L Q ns e)

      -- what next tells and leaves where ns stands in the buffer
      pub next_call : (L Q : List Reading) (ns : Reading) → readings X t ≡ Q ++ ns ∷ L → (b : List ℕ) → take (length ns) b ≡ ns → length t ≤ length b
          → fit_refusal (head? L) b ≡ 0
          → (next_tells run tb t ss cs b (length ns) ≡ answer (length_of (head? L)))
          × (next_leaves run tb t ss cs b (length ns) ≡ listed (head? L) b)
      next_call L Q ns e b at long fit =
          let k = length ns in
          let next : next_reading X t (take k b) ≡ head? L = ap (next_reading X t) at ∙ next_behind X t Q ns L e in
          let is_one : is_reading X t (take k b) ≡ true = ap (is_reading X t) at ∙ (is_reading_is X t ns).1 (reads L Q ns e) in
          let w = next_came b k (omega (arith, short L Q ns e)) is_one (ap (λ (o : Option Reading). fit_refusal o b) next ∙ fit) in (
            sym (came_tells w (λ Y. length_of (next_reading Y t (take k b)))) ∙ ap (λ (o : Option Reading). answer (length_of o)) next,
            sym (came_leaves w (λ Y. listed (next_reading Y t (take k b)) b) b) ∙ ap (λ (o : Option Reading). listed o b) next,
          )

      -- one call more, that told so and left the buffer so
      abbrev onto : ℕ → Reading → Told → List ℕ → Heard
      onto f ws told after =
          let more = go_on (listing_from run tb t ss cs f after) told told.values in
          heard (ws ∷ more.seen) more.last

      -- the readings that are still to come
      from : (L Q : List Reading) (ns : Reading) → readings X t ≡ Q ++ ns ∷ L → (b : List ℕ) → take (length ns) b ≡ ns → length t ≤ length b
          → (f : ℕ) → length L < f → listing_from run tb t ss cs f b (length ns) ≡ heard (ns ∷ L) End
      from L Q ns e b at long zero h = absurd (omega arith)
      from [] Q ns e b at long (suc f) h =
          let (told, after) = next_call [] Q ns e b at long refl in
          ap (λ (a : Told). onto f (take (length ns) b) a (next_leaves run tb t ss cs b (length ns))) told
          ∙ ap (λ (ws : Reading). heard (ws ∷ []) End) at
      from (ms ∷ L) Q ns e b at long (suc f) h =
          let k = length ns in
          let room : length ms ≤ length b = omega (arith, short L (Q ++ ns ∷ []) ms (snoc_split Q ns ms L e)) in
          let (told, after) = next_call (ms ∷ L) Q ns e b at long (fits_buffer ms b room) in
          let later = from L (Q ++ ns ∷ []) ms (snoc_split Q ns ms L e) (over ms b) (take-append_seam ms (drop (length ms) b))
          (omega (arith, over_long ms b room)) f (omega arith) in
          ap (λ (a : Told). onto f (take k b) a (next_leaves run tb t ss cs b k)) told
          ∙ ap (λ (l : List ℕ). onto f (take k b) (answer (1 ∷ length ms ∷ [])) l) after
          ∙ ap (λ (q : Heard). heard (take k b ∷ q.seen) q.last) later
          ∙ ap (λ (ws : Reading). heard (ws ∷ ms ∷ L) End) at

      -- .. and first
      pub first_call : (L : List Reading) (ns : Reading) → readings X t ≡ ns ∷ L → (b : List ℕ) → length ns ≤ length b
          → (first_tells run tb t ss cs b ≡ answer (1 ∷ length ns ∷ [])) × (first_leaves run tb t ss cs b ≡ over ns b)
      first_call L ns e b room =
          let o : head? (readings X t) ≡ some ns = ap head? e in
          let w = first_came b (ap (λ (q : Option Reading). unread_refusal q and_then fit_refusal q b) o ∙ fits_buffer ns b room) in (
            sym (came_tells w (λ Y. length_of (head? (readings Y t)))) ∙ ap (λ (q : Option Reading). answer (length_of q)) o,
            sym (came_leaves w (λ Y. listed (head? (readings Y t)) b) b) ∙ ap (λ (q : Option Reading). listed q b) o,
          )

      -- a text without a reading
      pub lists_none : (b : List ℕ) (f : ℕ) → readings X t ≡ [] → listing run tb t ss cs f b ≡ heard [] (refusal 12 0)
      lists_none b f e =
          let w = first_came b {n = 12} (rw e) in
          ap (λ (a : Told). go_on (listing_from run tb t ss cs f (first_leaves run tb t ss cs b)) a a.values)
          (sym (came_tells w (λ Y. length_of (head? (readings Y t)))))

      -- every reading once, in order, and then End
      pub lists_all : (b : List ℕ) → length t ≤ length b → (f : ℕ) → length (readings X t) ≤ f → (ns : Reading) (L : List Reading)
          → readings X t ≡ ns ∷ L → listing run tb t ss cs f b ≡ heard (readings X t) End
      lists_all b long f h ns L e =
          let room : length ns ≤ length b = omega (arith, short L [] ns e) in
          let (told, after) = first_call L ns e b room in
          ap (λ (a : Told). go_on (listing_from run tb t ss cs f (first_leaves run tb t ss cs b)) a a.values) told
          ∙ ap (λ (l : List ℕ). listing_from run tb t ss cs f l (length ns)) after
          ∙ from L [] ns e (over ns b) (take-append_seam ns (drop (length ns) b)) (omega (arith, over_long ns b room)) f
          (omega (arith, ap length e))
          ∙ ap (λ (R : List Reading). heard R End) (sym e)
