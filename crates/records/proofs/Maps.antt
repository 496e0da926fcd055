-- What a letter map changes: under that which sends each byte to itself, nothing.
use mathlib.Core.Path.{◌≡◌, refl, ap, ◌∙◌}
use mathlib.Core.Bool.{Bool, true, false}
use mathlib.Core.List.{List, []}
use Prim.Native.Nat.{ℕ, zero, suc, ◌+◌, ◌<◌}
use native.Mathlib.Omega.{arith}
use lib.ListN.{drop, length-take, length-drop}
use lib.Seq.{get_or-take, get_or-drop}
use Rattle.meaning.specs.Numbers.{most_words, letter_values}
use Rattle.meaning.specs.Words.{Word as Letters, Words, snoc}
use Rattle.meaning.specs.Plain.{LettersBelow}
use Rattle.letters.specs.Letters.{mapped, identity, part}
use Rattle.letters.specs.Record.{record_at, word_at}
use Rattle.letters.specs.declared.record.Record.{Record}
use Rattle.letters.specs.declared.record.Record.TheVariants.{End, Block, Word}
use Rattle.letters.specs.declared.refusal.Reason.{Reason}
use Rattle.std.specs.Prelude.{Result, Ok, Err}
use Rattle.letters.proofs.Bytes.{mapped_identity}
use Rattle.records.specs.Run.{joining, joined as joined_by, record_after, Run, on_record, run_from, run, dictionary, byte_dictionary}
use Rattle.records.specs.Book.{book, byte_book}

-- two ways to take bytes as letters that agree on each part of the bytes give the same run
module _ (in_book : Bool) (k ℓ : List ℕ → Letters) (b : List ℕ) (agree : (at n : ℕ) → k (part b at n) ≡ ℓ (part b at n)) where
  after_agrees : (X : Words) (at : ℕ) (r : Result Record Reason) → joined_by k b X at r ≡ joined_by ℓ b X at r
  after_agrees X at (Ok End) = refl
  after_agrees X at (Ok Block) = refl
  after_agrees X at (Ok (Word n)) = ap (λ (w : Letters). joining (λ u. w) b X at n) (agree (at + 3) n)
  after_agrees X at (Err reason) = refl

  from_agrees : (f : ℕ) (X : Words) (at : ℕ) → run_from in_book k b f X at ≡ run_from in_book ℓ b f X at
  from_agrees zero X at = refl
  from_agrees (suc f) X at =
      ap (on_record in_book X at (more k)) (after_agrees X at (record_at b at)) ∙ on (from_agrees f) (record_after ℓ b X at)
    where
      more : (List ℕ → Letters) → ℕ → Run
      more j n = run_from in_book j b f (snoc X (word_at j b at n)) (at + 3 + n)

      on : ((Y : Words) (p : ℕ) → run_from in_book k b f Y p ≡ run_from in_book ℓ b f Y p) → (r : Result Record Reason)
          → on_record in_book X at (more k) r ≡ on_record in_book X at (more ℓ) r
      on later (Ok End) = refl
      on later (Ok Block) = refl
      on later (Ok (Word n)) =
          later (snoc X (word_at k b at n)) (at + 3 + n)
          ∙ ap (λ (w : Letters). run_from in_book ℓ b f (snoc X w) (at + 3 + n)) (agree (at + 3) n)
      on later (Err reason) = refl

  run_agrees : run in_book k b ≡ run in_book ℓ b
  unfolding run
  run_agrees = from_agrees (suc most_words) [] 0

-- each byte to itself: the dictionary and the book are document 01's
module _ (b : List ℕ) (bytes : LettersBelow letter_values b) where
  own_letters : (at n : ℕ) → mapped identity (part b at n) ≡ part b at n
  own_letters at n =
      mapped_identity (part b at n) (λ i l.
      let long = length-take n (drop at b) in
      let rest = length-drop at b in
      let i-in : i < n = omega arith in
      rw (get_or-take n (drop at b) i 0 i-in, get_or-drop at b i 0) (bytes (at + i) (omega arith)))

  own_run : (in_book : Bool) → run in_book (mapped identity) b ≡ run in_book (λ u. u) b
  own_run in_book = run_agrees in_book (mapped identity) (λ u. u) b own_letters

  pub identity_dictionary : dictionary identity b ≡ byte_dictionary b
  identity_dictionary = own_run false

  pub identity_book : book identity b ≡ byte_book b
  identity_book = rw (own_run true)
