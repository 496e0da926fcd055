use Rattle.std.proofs.Common.{◌≡◌, ℕ, ◌-◌, ◌+◌, arith, sym, ap, ap₂, ◌∙◌}
use Rattle.records.specs.Run.{past_words}
use Rattle.records.proofs.Walking.{past_stop, past_next}
use Rattle.records.proofs.dictionary.word_place.Goals as goal

pub loop-init : goal.loop-init
loop-init c = let all : c.args.k ≡ c.args.k - 0 = omega arith in (omega arith, ap (λ (k : ℕ). past_words c.args.bytes.now k 0) all)

pub returns-then-len-eq0 : goal.returns-then-len-eq0
returns-then-len-eq0 c =
    let l = c.loop in
    sym (l.invariant.1 ∙ past_stop c.args.bytes.now (c.args.k - l.counter) l.at (omega arith) (sym c.word_len-len.ensures.is ∙ c.if-len-eq0.true))

pub loop-preserved : goal.loop-preserved
loop-preserved c =
    let l = c.loop in
    let n = c.word_len-len.result in
    let less : c.args.k - l.counter - 1 ≡ c.args.k - (l.counter + 1) = omega arith in
    let past : l.at + 3 + n ≡ l.at + (3 + n) = omega arith in
    let within = c.word_len-len.ensures.within (omega arith) in (
      omega (arith, within),
      l.invariant.1
          ∙ past_next c.args.bytes.now (c.args.k - l.counter) l.at n (omega arith) c.word_len-len.ensures.is c.if-len-eq0.false
          ∙ ap₂ (past_words c.args.bytes.now) less past,
    )

pub returns : goal.returns
returns c = let z : c.args.k - c.loop.counter ≡ 0 = omega arith in sym (c.loop.invariant.1 ∙ rw z)
