use Rattle.std.proofs.Common.{arith, sym, ◌∙◌}
use Rattle.std.proofs.lemmas.List.{ext_get_or}
use Rattle.letters.specs.Letters.{identity}
use Rattle.letters.proofs.Bytes.{identity-length, identity_at}
use Rattle.letters.proofs.letters.identity.Goals as goal

pub returns : goal.returns
returns c =
    ext_get_or 0 c.loop-i.letter-items identity (omega (arith, identity-length))
    (λ k h. c.loop-i.invariant k (omega arith) ∙ sym (identity_at k (omega arith)))
