use Rattle.std.proofs.Common.{ℕ, arith}
use Rattle.std.proofs.lemmas.List.{length-replicate}
use lib.ListN.{get_or-replicate}
use Rattle.records.proofs.repeats.Index.new.Goals as goal

pub returns : goal.returns
returns c = λ m b. record {
  classes_long = length-replicate {A = ℕ} 256 0;
  words_long = length-replicate {A = ℕ} 256 0;
  places_long = length-replicate {A = ℕ} 256 0;
  few = omega arith;
  last = λ d h. get_or-replicate 256 d 0 0 (omega arith);
  older = λ k h. absurd (omega arith);
  places = λ k h. absurd (omega arith);
}
