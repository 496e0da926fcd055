-- What first and next answer, and what the buffer then holds, by the reading that is to be written.
use Rattle.std.specs.Prelude.{◌≡◌, Option, None, Some, Result, Ok, Err, List, ℕ, leb, length, if◌then◌else◌}
use Rattle.std.proofs.Math.Option.{Option as Maybe, none, some}
use Rattle.meaning.specs.Words.{Reading}
use Rattle.meaning.specs.Table.{over}
use Rattle.letters.specs.declared.refusal.Reason.{Reason}
use Rattle.letters.specs.declared.refusal.Reason.TheVariants.{ShortBuffer}

abbrev pub answer : Maybe Reading → List ℕ → Result (Option ℕ) Reason
answer none buffer = Ok None
answer (some ws) buffer = if leb (length ws) (length buffer) then Ok (Some (length ws)) else Err ShortBuffer

-- the buffer after the call
abbrev pub left : Maybe Reading → List ℕ → List ℕ
left none buffer = buffer
left (some ws) buffer = if leb (length ws) (length buffer) then over ws buffer else buffer

pub record Answers (o : Maybe Reading) (before after : List ℕ) (r : Result (Option ℕ) Reason) : Type 0 where
  pub answers : r ≡ answer o before
  pub buffer : after ≡ left o before
