-- Readings that stand together in the list: those that end with the same words.
use mathlib.Core.Path.{◌≡◌, refl, sym, ap, ◌∙◌}
use mathlib.Core.List.{List, [], ◌∷◌, ◌++◌, map, append_assoc, append-nil}
use Prim.Native.Nat.{ℕ, zero, suc, ◌+◌, ◌-◌, ◌<◌}
use native.Mathlib.Omega.{arith}
use lib.ListN.{length, get_or, take, length-append, length-map, get_or-append}
use lib.Seq.{get_or-append-add}
use Rattle.meaning.specs.Words.{Word, Words, Reading, snoc, size}
use Rattle.meaning.specs.Automaton.{chain}
use Rattle.meaning.specs.Readings.{ending_with, readings_to, count_at}
use Rattle.meaning.proofs.Readings.{readings_to_suc}
use Rattle.listing.specs.Positions.{words_at}
use Rattle.numbering.specs.Numbers.{Exact, Together}

pub together_all : (X : Words) (t : Word) (i : ℕ) → Together X t i i [] 0
together_all X t i = record {
  room = omega arith;
  each = λ l h. ap (λ (k : ℕ). get_or (readings_to X t i) k []) (omega arith) ∙ sym (append-nil (get_or (readings_to X t i) l []));
}

pub together_then : {X : Words} {t : Word} {i j k : ℕ} {ms ns : Reading} {p q : ℕ}
    → Together X t i j ms p → Together X t j k ns q → Together X t i k (ms ++ ns) (q + p)
together_then {X} {t} {i} {j} {k} {ms} {ns} {p} {q} τ υ = record {
  room = omega (arith, τ.room, υ.room);
  each = λ l h.
      ap (λ (n : ℕ). get_or (readings_to X t k) n []) (omega arith)
      ∙ υ.each (p + l) (omega (arith, τ.room))
      ∙ ap (λ (r : Reading). r ++ ns) (τ.each l h)
      ∙ append_assoc (get_or (readings_to X t i) l []) ms ns;
}

-- counts before an exact one are exact: with the words between, each reading there makes another one here
pub exact_before : {X : Words} {t : Word} {i j : ℕ} {ms : Reading} {p : ℕ} → Together X t i j ms p → Exact X t j → Exact X t i
exact_before τ h = omega (arith, τ.room)

pub exact_count : (X : Words) (t : Word) (i : ℕ) → Exact X t i → count_at X t i ≡ length (readings_to X t i)
exact_count X t i h = omega arith

-- a walk along the chain at position i stands at v, and the readings that end with the words passed are p
pub record Passing (X : Words) (t : Word) (i v p : ℕ) : Type 0 where
  pub front : List Reading
  pub back : List Reading
  pub splits : readings_to X t i ≡ front ++ (ending_with X (readings_to X t) i (words_at X v) ++ back)
  pub passed : p ≡ length front
  pub all : (i ≡ 0 → ⊥) → back ≡ []

pub passing_none : (X : Words) (t : Word) (i : ℕ) {v : ℕ} → words_at X v ≡ chain X (take i t) → Passing X t i v 0
passing_none X t zero e = record { front = []; back = [] ∷ []; splits = rw e refl; passed = refl; all = λ f. absurd (f refl) }
passing_none X t (suc j) e = record {
  front = [];
  back = [];
  splits = rw e (readings_to_suc X t j ∙ sym (append-nil (ending_with X (readings_to X t) (suc j) (chain X (take (suc j) t)))));
  passed = refl;
  all = λ f. refl;
}

module _ {X : Words} {t : Word} {i v p : ℕ} (π : Passing X t i v p) where
  -- past the last word there is no reading more
  pub passing_end : words_at X v ≡ [] → (i ≡ 0 → ⊥) → length (readings_to X t i) ≡ p
  passing_end e f =
      ap length π.splits
      ∙ length-append π.front (ending_with X (readings_to X t) i (words_at X v) ++ π.back)
      ∙ omega (arith, π.passed, ap length none)
    where
      none : ending_with X (readings_to X t) i (words_at X v) ++ π.back ≡ []
      none = rw (e, π.all f) refl

  module _ {n : ℕ} {c : List ℕ} (e : words_at X v ≡ n ∷ c) where
    abbrev before : List Reading
    before = readings_to X t (i - size X n)

    abbrev with_word_lem : List Reading
    with_word_lem = map (λ ws. snoc ws n) before

    abbrev rest : List Reading
    rest = ending_with X (readings_to X t) i c

    long : length with_word_lem ≡ length before
    long = length-map before (λ ws. snoc ws n)

    parts : readings_to X t i ≡ π.front ++ (with_word_lem ++ (rest ++ π.back))
    parts =
        π.splits
        ∙ ap (λ (l : List ℕ). π.front ++ (ending_with X (readings_to X t) i l ++ π.back)) e
        ∙ ap (λ (l : List Reading). π.front ++ l) (append_assoc with_word_lem rest π.back)

    -- the readings that end with the word there come next
    pub passing_word : Together X t (i - size X n) i (n ∷ []) p
    passing_word = record {
      room = omega (
        arith,
        long,
        π.passed,
        ap length parts,
        length-append π.front (with_word_lem ++ (rest ++ π.back)),
        length-append with_word_lem (rest ++ π.back),
      );
      each = λ l h.
          ap (λ (k : List Reading). get_or k (p + l) []) parts
          ∙ ap (λ (k : ℕ). get_or (π.front ++ (with_word_lem ++ (rest ++ π.back))) (k + l) []) π.passed
          ∙ get_or-append-add π.front (with_word_lem ++ (rest ++ π.back)) l []
          ∙ get_or-append with_word_lem (rest ++ π.back) [] l (omega (arith, long))
          ∙ at_map before l h;
    }
      where
        at_map : (k : List Reading) (l : ℕ) → l < length k → get_or (map (λ ws. snoc ws n) k) l [] ≡ snoc (get_or k l []) n
        at_map [] l h = absurd (omega arith)
        at_map (x ∷ k) zero h = refl
        at_map (x ∷ k) (suc l) h = at_map k l (omega arith)

    -- .. and are passed with it
    pub passing_on : {w : ℕ} → words_at X w ≡ c → Passing X t i w (p + length (readings_to X t (i - size X n)))
    passing_on f = record {
      front = π.front ++ with_word_lem;
      back = π.back;
      splits = rw f (parts ∙ sym (append_assoc π.front with_word_lem (rest ++ π.back)));
      passed = omega (arith, long, π.passed, length-append π.front with_word_lem);
      all = π.all;
    }
