use Rattle.std.proofs.Common.{◌≡◌, ℕ, false, subst, ◌<◌, ◌≤◌, ◌+◌, rules, arith, sym, ◌∙◌, length}
use Rattle.std.proofs.lemmas.Bool.{lt-leb, le-ltb}
use Rattle.std.specs.Prelude.{Ok}
use Rattle.meaning.specs.Numbers.{most_words, most_letters}
use Rattle.meaning.specs.Words.{total, has}
use Rattle.letters.specs.Record.{record_at, word_at}
use Rattle.letters.specs.declared.record.Record.TheVariants.{Word}
use Rattle.letters.specs.Letters.{mapped}
use Rattle.records.specs.Run.{record_after}
use Rattle.records.specs.Classes.{classes, ReadAfter}
use Rattle.records.proofs.Run.{stands_end, holds}
use Rattle.records.proofs.Classes.{class_below}
use Rattle.records.proofs.Indexing.{indexed_more, read_word}
use Rattle.records.proofs.dictionary.record_after.Goals as goal

pub note-requires : goal.note-requires
note-requires c =
    let κ = c.requires.1 in
    let small : c.class_of-class.result < classes = rw c.class_of-class.ensures (class_below _) in
    let low : c.args.read.end < 65536 = omega (arith, stands_end κ.before.stands, κ.indexed.few, κ.small) in
    (small, omega arith, omega arith, omega (arith, low, c.from-at.ensures))

pub returns-else-repeats : goal.returns-else-repeats
returns-else-repeats c = λ X κ.
    let b = c.args.bytes.now in
    let ℓ = mapped c.args.map.now in
    let at = c.from-at.result in
    let n = c.in-Word.len in
    let here : record_at b at ≡ Ok (Word n) = search rules in
    let few : length X < most_words = omega (arith, κ.before.count) in
    let small : total X + n ≤ most_letters = omega (arith, κ.before.sum) in
    let new : has X (word_at ℓ b at n) ≡ false = sym (c.repeats.ensures X κ.indexed) ∙ c.if-repeats.false in
    let joins : Ok (Word n) ≡ record_after ℓ b X at = simp (here, lt-leb _ _ few, le-ltb _ _ small, new) in
    let more = indexed_more κ.indexed (omega (arith, κ.before.count)) (omega arith) (holds _ _ _ _ here) c.class_of-class.ensures c.note.ensures in
    subst (λ (p : ℕ). ReadAfter c.args.map.now b c.note.new.self p X (Ok (Word n))) c.from-at.ensures (read_word joins more)
