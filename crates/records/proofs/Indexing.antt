-- The index of the words so far, with one word more.
use mathlib.Core.Path.{◌≡◌, ap, sym, ◌∙◌, subst}
use mathlib.Core.List.{List, [], ◌∷◌}
use Prim.Native.Nat.{ℕ, suc, ◌-◌, ◌≤◌, ◌<◌}
use native.Mathlib.Decide.{dec_lt, ℕ_discrete}
use native.Mathlib.Omega.{arith}
use lib.ListN.{length, get_or, set, length-set, get_or-append}
use lib.Seq.{get_or-append_seam, get_or-set_same, get_or-set_other}
use Rattle.meaning.specs.Numbers.{most_words}
use Rattle.meaning.specs.Words.{Word as Letters, Words, snoc, word}
use Rattle.meaning.proofs.Lists.{snoc-length}
use Rattle.letters.specs.Letters.{mapped}
use Rattle.letters.specs.Record.{word_at}
use Rattle.letters.specs.declared.record.Record.{Record}
use Rattle.letters.specs.declared.record.Record.TheVariants.{End, Block, Word}
use Rattle.letters.specs.declared.refusal.Reason.{Reason}
use Rattle.std.specs.Prelude.{Result, Ok, Err}
use Rattle.records.specs.Run.{record_after}
use Rattle.records.specs.declared.repeats.Index.{Index}
use Rattle.records.specs.Stored.{Holds}
use Rattle.records.specs.Classes.{classes, class_of, up_to_last, Indexed, noted, ReadAfter}
use Rattle.records.proofs.Classes.{class_below, last_kept, last_new, last_other}

-- the word w, of class c, whose record stands at the offset, joins the index as the q-th
module _ {m b : List ℕ} {index : Index} {X : Words} {at c q : ℕ} {w : Letters} (ι : Indexed m b index X) (l : suc (length X) ≡ q)
    (few : q ≤ most_words) (r : Holds m b at w) (e : c ≡ class_of w) where
  hc : c < classes
  hc = rw e (class_below w)

  kept_word : (j : ℕ) → j < length X → word (snoc X w) j ≡ word X j
  kept_word j h = get_or-append X (w ∷ []) [] j h

  last_more : (d : ℕ) → d < classes → get_or (set index.last c q) d 0 ≡ up_to_last (snoc X w) d (suc (length X))
  last_more d h = elim (ℕ_discrete d c) [
    | yes i ↦
        ap (λ (k : ℕ). get_or (set index.last c q) k 0) i
        ∙ get_or-set_same index.last c q 0 (omega (arith, hc, ι.classes_long)) ∙ sym l ∙ sym (last_new X w)
        ∙ ap (λ (k : ℕ). up_to_last (snoc X w) k (suc (length X))) (sym (i ∙ e))
    | no i ↦ get_or-set_other index.last c d q 0 i ∙ ι.last d h ∙ sym (last_other X w d (λ j. i (sym (e ∙ j))))
  ]

  older_more : (j : ℕ) → j < suc (length X)
      → get_or (set index.older (q - 1) (get_or index.last c 0)) j 0 ≡ up_to_last (snoc X w) (class_of (word (snoc X w) j)) j
  older_more j h = elim (dec_lt j (length X)) [
    | yes i ↦
        get_or-set_other index.older (q - 1) j (get_or index.last c 0) 0 (omega arith)
        ∙ ι.older j i ∙ rw (kept_word j i, last_kept X w (class_of (word X j)) j (omega arith))
    | no i ↦
        let y : j ≡ length X = omega arith in
        let z : q - 1 ≡ length X = omega arith in
        rw (y, z, get_or-append_seam X w [] [], get_or-set_same index.older (length X) (get_or index.last c 0) 0 (omega (arith, ι.words_long)))
        (ι.last c hc ∙ rw e (sym (last_kept X w (class_of w) (length X) (omega arith))))
  ]

  places_more : (j : ℕ) → j < suc (length X) → Holds m b (get_or (set index.places (q - 1) at) j 0) (word (snoc X w) j)
  places_more j h = elim (dec_lt j (length X)) [
    | yes i ↦ rw (get_or-set_other index.places (q - 1) j at 0 (omega arith), kept_word j i) (ι.places j i)
    | no i ↦
        let y : j ≡ length X = omega arith in
        let z : q - 1 ≡ length X = omega arith in
        rw (y, z, get_or-append_seam X w [] [], get_or-set_same index.places (length X) at 0 (omega (arith, ι.places_long))) r
  ]

  pub indexed_more : {index' : Index} → index' ≡ noted index c q at → Indexed m b index' (snoc X w)
  indexed_more z = subst (λ (t : Index). Indexed m b t (snoc X w)) (sym z) (record {
    classes_long = length-set index.last c q ∙ ι.classes_long;
    words_long = length-set index.older (q - 1) (get_or index.last c 0) ∙ ι.words_long;
    places_long = length-set index.places (q - 1) at ∙ ι.places_long;
    few = omega (arith, snoc-length X w);
    last = λ d h. rw (snoc-length X w) (last_more d h);
    older = λ j h. older_more j (omega (arith, snoc-length X w));
    places = λ j h. places_more j (omega (arith, snoc-length X w));
  })

-- the record that is read: a word, which the index has then; or none
abbrev NoWord : Result Record Reason → Type 0
NoWord (Ok End) = Unit
NoWord (Ok Block) = Unit
NoWord (Ok (Word n)) = ⊥
NoWord (Err reason) = Unit

pub read_other : {m b : List ℕ} {index : Index} {at : ℕ} {X : Words} {r : Result Record Reason} → NoWord r → r ≡ record_after (mapped m) b X at
    → ReadAfter m b index at X r
read_other d e = record { is = e; indexed = λ n z. absurd (subst NoWord z d) }

pub read_word : {m b : List ℕ} {index : Index} {at n : ℕ} {X : Words} → Ok (Word n) ≡ record_after (mapped m) b X at
    → Indexed m b index (snoc X (word_at (mapped m) b at n)) → ReadAfter m b index at X (Ok (Word n))
read_word {m} {b} {index} {at} {n} {X} e ι = record {
  is = e;
  indexed = λ k z. let i : n ≡ k = cc in subst (λ (j : ℕ). Indexed m b index (snoc X (word_at (mapped m) b at j))) i ι;
}
