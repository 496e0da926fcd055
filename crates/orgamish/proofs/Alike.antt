-- Demands 2 and 3 under a lent map: the words' bytes are W, and equal is equal under the map.
use mathlib.Core.Path.{◌≡◌}
use mathlib.Core.Logic.{◌↔◌}
use mathlib.Core.Bool.{Bool, true, false}
use mathlib.Core.List.{List, map, Memᴰ}
use Prim.Native.Nat.{ℕ, ◌<◌}
use lib.ListN.{length}
use Rattle.meaning.specs.Numbers.{letter_values}
use Rattle.meaning.specs.Words.{Word, Words, Reading, word}
use Rattle.meaning.specs.Readings.{readings}
use Rattle.meaning.specs.Plain.{Storable, Allowed, NoneIs, IsReading}
use Rattle.meaning.proofs.Readings.{readings_are}
use Rattle.letters.specs.Letters.{letter, mapped, Alike, Under, ReadsUnder}
use Rattle.letters.proofs.Maps.{reads_under, unlike, none_under}
use Rattle.records.specs.Run.{ran, dictionary}
use Rattle.records.proofs.Accepted as record-laws
use Rattle.records.proofs.Stored.{Written, dictionary_written}
use Rattle.judging.specs.Under.{words_under}
use Rattle.judging.specs.Order.{scan_refusal}
use Rattle.orgamish.specs.Calls.{scan_tells}
use Rattle.orgamish.specs.Answers.{scan_told}
use Rattle.std.specs.Prelude.{Ok}
use Rattle.judging.proofs.Under.{under_ran}
use Rattle.orgamish.proofs.Demands.{accepts_reading}

-- the words X are these raw words, mapped
module _ (m : List ℕ) (raw : Words) {X : Words} (letters : X ≡ map (mapped m) raw) where
  unlike_words : Storable X → (i j : ℕ) → i < length raw → j < length raw → Alike m (word raw i) (word raw j) → i ≡ j
  unlike_words s = unlike m raw (rw (← letters) s)

  reads_words : (u : List ℕ) (ns : Reading) → IsReading X (mapped m u) ns ↔ ReadsUnder m raw u ns
  reads_words u ns = rw letters (reads_under m raw u ns)

  none_words : (So : Word → Word → Type 0) → NoneIs So X ↔ NoneIs (Under So m) raw
  none_words So = rw letters (none_under So m raw)

module _ (m d : List ℕ) (bytes : (x : ℕ) → letter m x < letter_values) {X : Words} {end : ℕ} (is : words_under m d ≡ ran X end) where
  passed : dictionary m d ≡ ran X end
  passed = under_ran m d is

  pub allowed_under : Allowed X
  allowed_under = record-laws.allowed bytes (record-laws.accepted false m d passed)

  pub written : Written m d X
  written = dictionary_written m d passed

  -- the words as the dictionary has them: `written.bytes` is d ≡ word_records W
  abbrev pub W : Words
  W = written.raw

  pub no_two_alike : (i j : ℕ) → i < length W → j < length W → Alike m (word W i) (word W j) → i ≡ j
  no_two_alike = unlike_words m W written.letters allowed_under.storable

  pub reads : (u : List ℕ) (ns : Reading) → IsReading X (mapped m u) ns ↔ ReadsUnder m W u ns
  reads = reads_words m W written.letters

  -- that no word is so to another: of the words, and of their bytes under the map
  pub none_alike : (So : Word → Word → Type 0) → NoneIs So X ↔ NoneIs (Under So m) W
  none_alike = none_words m W written.letters

  -- demand 2: accepted exactly where words, joined, equal the text under the map
  pub accepts_alike : (tb u ss cs : List ℕ) → scan_refusal X tb (mapped m u) ss cs ≡ 0 → (verdict : Bool) (f c p : ℕ)
      → scan_told (Ok (record { accepted = verdict; farthest = f; count = c; probes = p })) ≡ scan_tells (words_under m d) tb (mapped m u) ss cs
      → (verdict ≡ true) ↔ ((ns : Reading) × ReadsUnder m W u ns)
  accepts_alike tb u ss cs clear verdict f c p e =
      let found = accepts_reading is allowed_under tb (mapped m u) ss cs clear verdict f c p e in (
        λ y. let (ns, r) = found.0 y in (ns, (reads u ns).0 r),
        λ r. found.1 (r.0, (reads u r.0).1 r.1),
      )

  -- demand 3: the readings that are counted and listed are these
  pub lists_alike : (u : List ℕ) (ns : Reading) → Memᴰ ns (readings X (mapped m u)) ↔ ReadsUnder m W u ns
  lists_alike u ns =
      let listed = readings_are X allowed_under.storable.dictionary (mapped m u) ns in
      (λ i. (reads u ns).0 (listed.0 i), λ r. listed.1 ((reads u ns).1 r))
