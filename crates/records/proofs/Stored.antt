-- Records determine the words: an accepted dictionary's bytes are the records of its words, and such records are accepted.
use mathlib.Core.Path.{◌≡◌, refl, ap, ap₂, sym, ◌∙◌, subst}
use mathlib.Core.Bool.{true, false}
use mathlib.Core.List.{List, [], ◌∷◌, ◌++◌, map, append_assoc, append-nil}
use Rattle.std.specs.Prelude.{Ok}
use Prim.Native.Nat.{ℕ, zero, suc, ◌+◌, ◌≤◌, ◌<◌}
use native.Mathlib.Omega.{arith}
use lib.ListN.{length, get_or, take, drop, length-append, length-drop, length-map, take-append-drop}
use lib.Seq.{drop-cons, drop-drop, get_or-drop, get_or-append_seam, take-append_seam, drop-append_seam, take_at, drop-length}
use borrow.Author.Tests.{le-leb, lt-leb, le-ltb}
use Rattle.meaning.specs.Numbers.{most_words, longest_word, most_letters}
use Rattle.meaning.specs.Plain.{Distinct, Storable}
use Rattle.meaning.specs.Words.{Word as Letters, Words, snoc, find, has, is_some, word, total}
use Rattle.meaning.proofs.Find.{none_unless, find_some, find_kept}
use Rattle.meaning.proofs.States.{total-append}
use Rattle.letters.specs.Letters.{mapped, part}
use Rattle.letters.specs.Record.{record_at, word_at}
use Rattle.letters.specs.declared.record.Record.TheVariants.{End, Word}
use Rattle.letters.proofs.Bytes.{part_length}
use Rattle.letters.proofs.Records.{FitsWord, word_fits, word_record_lem}
use Rattle.records.specs.Run.{joined, record_after, ran, on_record, run_from, run, dictionary}
use Rattle.records.specs.Stored.{Stands, stop, step, word_record, word_records}
use Rattle.records.proofs.Run.{Good}
use Rattle.records.proofs.Accepted.{accepted, whole, storable}

part-drop : (b : List ℕ) (p n : ℕ) → drop p b ≡ part b p n ++ drop (p + n) b
part-drop b p n = sym (take-append-drop n (drop p b)) ∙ ap (part b p n ++◌) (drop-drop n p b)

-- the bytes from a word record on
record_bytes : (b : List ℕ) (p n : ℕ) → FitsWord b p n → drop p b ≡ word_record (part b (p + 3) n) ++ drop (p + 3 + n) b
record_bytes b p n f =
    let l : p + 2 < length b = omega (arith, f.within) in
    let size : get_or b (p + 2) 0 ≡ length (part b (p + 3) n) = f.size ∙ sym (part_length b (p + 3) n f.within) in
    let three : suc (p + 2) ≡ p + 3 = omega arith in
    part-drop b p 2
    ∙ ap₂ ◌++◌ f.mark (drop-cons b (p + 2) 0 l ∙ ap₂ ◌∷◌ size (ap (λ (j : ℕ). drop j b) three ∙ part-drop b (p + 3) n))

-- the words X are these raw words, whose records stand from p up to e
record Raw (m b : List ℕ) (p e : ℕ) (X : Words) : Type 0 where
  raw : Words
  bytes : drop p b ≡ word_records raw ++ drop e b
  letters : X ≡ map (mapped m) raw

raw_words : {m b : List ℕ} {e p : ℕ} {X : Words} → Stands m b e p X → Raw m b p e X
raw_words stop = record { raw = []; bytes = refl; letters = refl }
raw_words {m} {b} {e} {p} (step {n = n} q s) =
    let f : FitsWord b p n = word_fits q in
    let r = raw_words s in
    let w = part b (p + 3) n in
    record {
      raw = w ∷ r.raw;
      bytes =
          record_bytes b p n f ∙ ap (word_record w ++◌) r.bytes
          ∙ sym (append_assoc (word_record w) (word_records r.raw) (drop e b));
      letters = ap (mapped m w ∷◌) r.letters;
    }

-- the bytes are the records of raw words, and the words X are these, mapped
pub record Written (m b : List ℕ) (X : Words) : Type 0 where
  pub raw : Words
  pub bytes : b ≡ word_records raw
  pub letters : X ≡ map (mapped m) raw

pub dictionary_written : (m b : List ℕ) {X : Words} {at : ℕ} → dictionary m b ≡ ran X at → Written m b X
dictionary_written m b {X} e =
    let r : Raw m b 0 (length b) X = subst (λ (at : ℕ). Raw m b 0 at X) (whole m b e) (raw_words (accepted false m b e).stands) in
    record {
      raw = r.raw;
      bytes = r.bytes ∙ ap (word_records r.raw ++◌) (drop-length b) ∙ append-nil (word_records r.raw);
      letters = r.letters;
    }

-- a word that stands past the words X of a list without repeats is not among them
new_word : (X : Words) (w : Letters) (Y : Words) → Distinct (X ++ w ∷ Y) → has X w ≡ false
new_word X w Y d = ap is_some (none_unless (find X w) (λ k e.
    let f = find_some X w k e in
    let g = find_some (X ++ w ∷ Y) w k (find_kept X (w ∷ Y) w k e) in
    let l = length-append X (w ∷ Y) in
    let i = d k (length X) g.inside (omega arith) (g.reads ∙ sym (get_or-append_seam X w Y [])) in
    omega (arith, f.inside)))

-- what is read where a word's record stands
module _ (b : List ℕ) (p : ℕ) (w : Letters) (rest : List ℕ) (e : drop p b ≡ word_record w ++ rest) where
  room : p + 3 + length w + length rest ≡ length b
  room = omega (arith, ap length e, length-append (word_record w) rest, length-drop p b)

  past_three : drop (p + 3) b ≡ w ++ rest
  past_three = sym (drop-drop 3 p b) ∙ ap (drop 3) e

  reads_part : part b (p + 3) (length w) ≡ w
  reads_part = ap (take (length w)) past_three ∙ take-append_seam w rest

  reads_rest : drop (p + 3 + length w) b ≡ rest
  reads_rest = sym (drop-drop (length w) (p + 3) b) ∙ ap (drop (length w)) past_three ∙ drop-append_seam w rest

  reads_record : 1 ≤ length w → length w ≤ longest_word → record_at b p ≡ Ok (Word (length w))
  reads_record h l = word_record_lem {b = b} {at = p} (record {
    mark = ap (take 2) e;
    size = sym (get_or-drop p b 2 0) ∙ ap (λ (u : List ℕ). get_or u 2 0) e;
    nonempty = h;
    short = l;
    within = omega (arith, room);
  })

module _ (m b : List ℕ) where
  -- the run over the records of raw words, after the words X
  reads : (raw : Words) (f : ℕ) (X : Words) (p : ℕ) → length raw < f → p ≤ length b → drop p b ≡ word_records raw
      → Storable (X ++ map (mapped m) raw) → run_from false (mapped m) b f X p ≡ ran (X ++ map (mapped m) raw) (length b)
  reads raw zero X p l h e s = absurd (omega arith)
  reads [] (suc f) X p l h e s =
      let z : length b ≤ p = omega (arith, ap length e, length-drop p b) in
      let q : p ≡ length b = omega arith in
      let r : record_at b p ≡ Ok End = simp (le-leb _ _ z) in
      rw (r, q, append-nil X)
  reads (w ∷ raw) (suc f) X p l h e s =
      let v = mapped m w in
      let Y = map (mapped m) raw in
      let n = length w in
      let i : length X < length (X ++ v ∷ Y) = omega (arith, length-append X (v ∷ Y)) in
      let v-here : word (X ++ v ∷ Y) (length X) ≡ v = get_or-append_seam X v Y [] in
      let long : length v ≡ n = length-map w _ in
      let v-some : 1 ≤ length v = rw v-here at (s.dictionary.nonempty (length X) i) in
      let v-short : length v ≤ longest_word = rw v-here at (s.short (length X) i) in
      let v-is : word_at (mapped m) b p n ≡ v = ap (mapped m) (reads_part b p w (word_records raw) e) in
      let few : length X < most_words = omega (arith, s.few) in
      let small : total X + n ≤ most_letters = omega (arith, s.small, total-append X (v ∷ Y)) in
      let new : has X (word_at (mapped m) b p n) ≡ false = ap (has X) v-is ∙ new_word X v Y s.dictionary.distinct in
      let here : record_at b p ≡ Ok (Word n) = reads_record b p w (word_records raw) e (omega arith) (omega arith) in
      let after : record_after (mapped m) b X p ≡ Ok (Word n) = ap (joined (mapped m) b X p) here ∙ simp (lt-leb _ _ few, le-ltb _ _ small, new) in
      let regrouped : snoc X v ++ Y ≡ X ++ v ∷ Y = append_assoc X (v ∷ []) Y in
      let fits = room b p w (word_records raw) e in
      ap (on_record false X p (λ k. run_from false (mapped m) b f (snoc X (word_at (mapped m) b p k)) (p + 3 + k))) after
      ∙ ap (λ (u : Letters). run_from false (mapped m) b f (snoc X u) (p + 3 + n)) v-is
      ∙ reads raw f (snoc X v) (p + 3 + n) (omega arith) (omega arith) (reads_rest b p w (word_records raw) e) (rw regrouped s)
      ∙ ap (λ (Z : Words). ran Z (length b)) regrouped

-- the records of raw words within the limits, no two mapped alike, are accepted with exactly these words
pub dictionary_reads : (m : List ℕ) (raw : Words) → Storable (map (mapped m) raw)
    → dictionary m (word_records raw) ≡ ran (map (mapped m) raw) (length (word_records raw))
unfolding run
dictionary_reads m raw s =
    reads m (word_records raw) raw (suc most_words) [] 0 (omega (arith, s.few, length-map raw (mapped m))) (omega arith) refl s

-- the bytes of a book before its first block record are, as a dictionary by themselves, its dictionary
pub own_dictionary : (m b : List ℕ) {X : Words} {at : ℕ} → run true (mapped m) b ≡ ran X at → dictionary m (take at b) ≡ ran X at
own_dictionary m b {X} {at} e =
    let g : Good m b X at = accepted true m b e in
    let r : Raw m b 0 at X = raw_words g.stands in
    let W = word_records r.raw in
    let long : length W ≡ at = omega (arith, ap length r.bytes, length-append W (drop at b), length-drop at b, g.within) in
    let front : take at b ≡ W = ap (take at) r.bytes ∙ take_at W (drop at b) at long in
    ap (dictionary m) front ∙ dictionary_reads m r.raw (subst Storable r.letters (storable g)) ∙ ap₂ ran (sym r.letters) long
