-- The walk over a run of block records.
use mathlib.Core.Path.{◌≡◌, refl, ap, ap₂, sym, ◌∙◌}
use mathlib.Core.List.{List, [], ◌∷◌, ◌++◌, append_assoc, append-nil}
use Prim.Native.Nat.{ℕ, zero, suc, ◌+◌, ◌*◌, ◌-◌, ◌≤◌, ◌<◌}
use native.Mathlib.Nat.{sub-zero}
use native.Mathlib.Omega.{arith}
use borrow.Author.Tests.{le-ltb, lt-ltb}
use lib.ListN.{length, take, length-append, get_or-eq_default}
use lib.Seq.{get_or_at, take-append_seam}
use Rattle.meaning.specs.Words.{Words, snoc, word, total}
use Rattle.meaning.proofs.Lists.{snoc-length}
use Rattle.meaning.proofs.States.{total-append}
use Rattle.letters.proofs.Bytes.{part_length}
use Rattle.letters.specs.Record.{block_at, text_at}
use Rattle.letters.specs.Refusal.{number_of}
use Rattle.letters.specs.declared.refusal.Reason.{Reason}
use Rattle.std.specs.Prelude.{Option, None, Some, Result, Ok, Err}
use Rattle.letters.proofs.Records.{FitsBlock, block_fits}
use Rattle.records.specs.Book.{Blocks, texts, on_block, blocks_from, blocks, offset_from, Block}
use Rattle.records.specs.Told.{answer, refusal, blocks_tell}

-- the walk has come to an offset, past n blocks
pub record Going (b : List ℕ) (start n at : ℕ) : Type 0 where
  pub T : Words
  pub count : length T ≡ n
  pub offset : at ≡ start + 4 * n + total T
  pub within : at ≤ length b
  pub goes : blocks b start ≡ blocks_from b (suc (length b) - n) T at

pub sets_out : (b : List ℕ) (start : ℕ) → start ≤ length b → Going b start 0 start
unfolding blocks
sets_out b start h = record { T = []; count = refl; offset = omega arith; within = h; goes = rw sub-zero }

-- the texts that a run ends with begin with those read before
record Extends (T U : Words) : Type 0 where
  rest : Words
  is : U ≡ T ++ rest

texts_same : {T U : Words} → texts T ≡ texts U → T ≡ U
texts_same e = cc

extends : (b : List ℕ) (f : ℕ) (T : Words) (at : ℕ) (U : Words) → blocks_from b f T at ≡ texts U → Extends T U
extends b zero T at U e = record { rest = []; is = texts_same (sym e) ∙ sym (append-nil T) }
extends b (suc f) T at U e = on (λ n. extends b f (snoc T (text_at b at n)) (at + 4 + n) U) (block_at b at) e
  where
    more : ℕ → Blocks
    more n = blocks_from b f (snoc T (text_at b at n)) (at + 4 + n)

    on : ((n : ℕ) → more n ≡ texts U → Extends (snoc T (text_at b at n)) U) → (r : Result (Option ℕ) Reason) → on_block T more r ≡ texts U → Extends T U
    on go (Ok None) q = record { rest = []; is = texts_same (sym q) ∙ sym (append-nil T) }
    on go (Ok (Some n)) q =
        let x = go n q in
        record { rest = text_at b at n ∷ x.rest; is = x.is ∙ append_assoc T (text_at b at n ∷ []) x.rest }
    on go (Err reason) q = let z : ◌≡◌ {A = ℕ} 0 1 = cc in absurd (omega arith)

module _ {b : List ℕ} {start n at : ℕ} (g : Going b start n at) where
  more : ℕ → Blocks
  more k = blocks_from b (length b - n) (snoc g.T (text_at b at k)) (at + 4 + k)

  -- what the blocks come to, by the record here
  comes : (r : Result (Option ℕ) Reason) → r ≡ block_at b at → blocks b start ≡ on_block g.T more r
  unfolding more
  comes r e =
      let f : suc (length b) - n ≡ suc (length b - n) = omega (arith, g.offset, g.within) in
      g.goes ∙ ap (λ (k : ℕ). blocks_from b k g.T at) f ∙ ap (on_block g.T more) (sym e)

  pub ended : (words : ℕ) → Ok None ≡ block_at b at → answer (words ∷ n ∷ start ∷ []) ≡ blocks_tell words start (blocks b start)
  ended words e = rw (comes (Ok None) e, g.count)

  pub stopped : (words : ℕ) (reason : Reason) → Err reason ≡ block_at b at → refusal (number_of reason) (words + n) ≡ blocks_tell words start (blocks b start)
  stopped words reason e = rw (comes (Err reason) e, g.count)

  -- the record here is a block
  pub next : (k : ℕ) → Ok (Some k) ≡ block_at b at → Going b start (n + 1) (at + 4 + k)
  unfolding more
  next k e =
      let v = text_at b at k in
      let f : FitsBlock b at k = block_fits (sym e) in
      let fuel : length b - n ≡ suc (length b) - (n + 1) = omega arith in
      record {
        T = snoc g.T v;
        count = omega (arith, snoc-length g.T v, g.count);
        offset = omega (arith, g.offset, total-append g.T (v ∷ []), part_length b (at + 4) k f.within);
        within = f.within;
        goes = comes (Ok (Some k)) e ∙ ap (λ (j : ℕ). blocks_from b j (snoc g.T v) (at + 4 + k)) fuel;
      }

  -- there is no block past the last one
  pub no_block : (N : ℕ) → n ≤ N → Ok None ≡ block_at b at → (U : Words) → blocks b start ≡ texts U
      → Block b U N (offset_from start U N) 0 0
  no_block N h e U q =
      let same : g.T ≡ U = texts_same (sym (comes (Ok None) e) ∙ q) in
      let past : length U ≤ N = omega (arith, ap length same, g.count) in
      let none : [] ≡ word U N = sym (get_or-eq_default U [] past) in
      record { stands = rw (le-ltb _ _ past) refl; length_is = ap length none; within = omega arith; is = none }

  pub no_texts : (reason : Reason) → Err reason ≡ block_at b at → (U : Words) → blocks b start ≡ texts U → ⊥
  no_texts reason e U q = let c = comes (Err reason) e in let z : ◌≡◌ {A = ℕ} 0 1 = cc in omega arith

  -- block n is the text of the record here
  pub the_block : (k : ℕ) → Ok (Some k) ≡ block_at b at → (U : Words) → blocks b start ≡ texts U
      → Block b U n (offset_from start U n) (at + 4) k
  unfolding more
  the_block k e U q =
      let v = text_at b at k in
      let x = extends b (length b - n) (snoc g.T v) (at + 4 + k) U (sym (comes (Ok (Some k)) e) ∙ q) in
      let f : FitsBlock b at k = block_fits (sym e) in
      let cut : U ≡ g.T ++ v ∷ x.rest = x.is ∙ append_assoc g.T (v ∷ []) x.rest in
      let here : v ≡ word U n = sym (ap (λ (Z : Words). word Z n) cut ∙ get_or_at g.T v x.rest [] n g.count) in
      let before : take n U ≡ g.T = ap₂ take (sym g.count) cut ∙ take-append_seam g.T (v ∷ x.rest) in
      let less : n < length U = omega (arith, ap length cut, length-append g.T (v ∷ x.rest), g.count) in
      record {
        stands = rw (lt-ltb _ _ less) (omega (arith, g.offset, ap total before));
        length_is = sym (part_length b (at + 4) k f.within) ∙ ap length here;
        within = f.within;
        is = here;
      }
