-- What holds under a lent map. With that which sends each byte to itself the calls answer as document 01 has it.
use mathlib.Core.Path.{◌≡◌, refl, ap₂, sym, ◌∙◌}
use mathlib.Core.Bool.{Bool, true, false}
use mathlib.Core.List.{List}
use Prim.Native.Nat.{ℕ}
use native.Mathlib.Omega.{arith}
use borrow.Author.Tests.{eq-eqb}
use Rattle.meaning.specs.Numbers.{letter_values}
use Rattle.meaning.specs.Words.{Word, Words}
use Rattle.meaning.specs.Plain.{LettersBelow}
use Rattle.letters.specs.Letters.{mapped, identity}
use Rattle.letters.proofs.Bytes.{identity-length, mapped_identity}
use Rattle.records.specs.Run.{Run, ran, refused, dictionary, byte_dictionary}
use Rattle.records.specs.Book.{shut, book, byte_book}
use Rattle.records.proofs.Maps.{identity_dictionary, identity_book}
use Rattle.judging.specs.Under.{is_map, words_under, book_under}

-- a map that is refused is refused so, whatever the bytes
pub map_first : (m d : List ℕ) → is_map m ≡ false → words_under m d ≡ refused 18 0
unfolding words_under
map_first m d e = rw e

pub map_first_book : (m b : List ℕ) → is_map m ≡ false → book_under m b ≡ shut 18 0
unfolding book_under
map_first_book m b e = rw e

pub words_lent : (m d : List ℕ) → is_map m ≡ true → words_under m d ≡ dictionary m d
unfolding words_under
words_lent m d e = rw e

pub book_lent : (m b : List ℕ) → is_map m ≡ true → book_under m b ≡ book m b
unfolding book_under
book_lent m b e = rw e

-- words that pass are those of the dictionary
pub under_ran : (m d : List ℕ) {X : Words} {end : ℕ} → words_under m d ≡ ran X end → dictionary m d ≡ ran X end
under_ran m d {X} {end} e = go (is_map m) refl
  where
    go : (q : Bool) → is_map m ≡ q → dictionary m d ≡ ran X end
    go true lent = sym (words_lent m d lent) ∙ e
    go false none =
        let first : refused 18 0 ≡ ran X end = sym (map_first m d none) ∙ e in
        let z : ◌≡◌ {A = ℕ} 0 1 = cc in absurd (omega arith)

-- each byte to itself
is_map_lem : is_map identity ≡ true
is_map_lem = eq-eqb _ _ identity-length

pub words_as_bytes : (d : List ℕ) → LettersBelow letter_values d → words_under identity d ≡ byte_dictionary d
words_as_bytes d bytes = words_lent identity d is_map_lem ∙ identity_dictionary d bytes

pub book_as_bytes : (b : List ℕ) → LettersBelow letter_values b → book_under identity b ≡ byte_book b
book_as_bytes b bytes = book_lent identity b is_map_lem ∙ identity_book b bytes

-- .. so whatever a call answers by its words and its text, it answers by the bytes: take for `answer` any definition of `Calls`,
-- as in λ run t. scan_tells run tb t ss cs
pub answers_as_bytes : {A : Type 0} (answer : Run → Word → A) (d u : List ℕ) → LettersBelow letter_values d → LettersBelow letter_values u
    → answer (words_under identity d) (mapped identity u) ≡ answer (byte_dictionary d) u
answers_as_bytes answer d u bytes text = ap₂ answer (words_as_bytes d bytes) (mapped_identity u text)
