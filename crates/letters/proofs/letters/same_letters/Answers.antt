use Rattle.std.proofs.Common.{arith, ◌<◌, sym, ◌∙◌}
use Rattle.letters.specs.Letters.{part}
use Rattle.letters.proofs.Bytes.{part_length, each_same, one_other}
use Rattle.letters.proofs.letters.same_letters.Goals as goal

pub returns-then-letter : goal.returns-then-letter
returns-then-letter c =
    let b = c.args.bytes.now in
    let long = part_length b c.args.p c.args.n (omega arith) in
    let long' = part_length b c.args.q c.args.n (omega arith) in
    let h : c.loop-i.i < c.args.n = omega arith in
    sym (one_other c.args.map.now (part b c.args.p c.args.n) (part b c.args.q c.args.n) c.loop-i.i (omega (arith, h, long)) (omega (arith, h, long'))
    (λ e. c.if-letter.true (grind (arith, e, c.letter.ensures, c.letter-in-loop-i.ensures))))

pub returns : goal.returns
returns c =
    let b = c.args.bytes.now in
    let long = part_length b c.args.p c.args.n (omega arith) in
    let long' = part_length b c.args.q c.args.n (omega arith) in
    sym (each_same c.args.map.now (part b c.args.p c.args.n) (part b c.args.q c.args.n) (long ∙ sym long') (λ k h. c.loop-i.invariant k (omega (arith, h, long))))
