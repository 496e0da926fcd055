use Rattle.std.proofs.Common.{◌<◌, length, sym, arith, ◌∙◌}
use Rattle.std.proofs.Math.ListN.{length-map}
use Rattle.letters.specs.Letters.{mapped}
use Rattle.letters.proofs.Bytes.{mapped_at}
use Rattle.tree.proofs.Inserting.{opens, reaches, partly_row, inserted}
use Rattle.tree.proofs.insertion.insert_word.Goals as goal

pub reach-last-requires : goal.reach-last-requires
reach-last-requires c =
    let (X, S, γ) = c.requires in
    let more : c.loop-i.i < length (mapped c.args.map.now c.args.letters.now) = simp length-map c.loop-i-test.true in
    let reads = c.from-a.ensures ∙ c.letter-letter.ensures ∙ sym (mapped_at c.args.map.now c.args.letters.now c.loop-i.i c.loop-i-test.true) in
    (X, _, opens γ (c.loop-i.invariant X S γ) more c.loop-i.auto.table reads)

pub loop-i-preserved : goal.loop-i-preserved
loop-i-preserved c X S γ =
    let φ = c.loop-i.invariant X S γ in
    let more : c.loop-i.i < length (mapped c.args.map.now c.args.letters.now) = simp length-map c.loop-i-test.true in
    let reads = c.from-a.ensures ∙ c.letter-letter.ensures ∙ sym (mapped_at c.args.map.now c.args.letters.now c.loop-i.i c.loop-i-test.true) in
    reaches γ φ more c.loop-i.auto.table reads (c.reach-last.ensures X _ (opens γ φ more c.loop-i.auto.table reads))

pub set_word-requires : goal.set_word-requires
set_word-requires c =
    let (X, S, γ) = c.requires in
    (partly_row γ (c.loop-i.invariant X S γ), omega (arith, γ.words))

pub returns : goal.returns
returns c X S γ =
    inserted γ (c.loop-i.invariant X S γ)
    (simp length-map c.loop-i-test.false)
    c.set_word.ensures
