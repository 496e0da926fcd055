-- What an answer tells.
use Rattle.std.specs.Prelude.{Option, None, Some, Result, Ok, Err, [], ◌∷◌, ℕ}
use Rattle.letters.specs.declared.refusal.Refusal.{Refusal}
use Rattle.records.specs.Told.{Told, answer, refusal_told}
use Rattle.orgamish.specs.Calls.{flag}
use Rattle.orgamish.specs.declared.answers.Built.{Built}
use Rattle.orgamish.specs.declared.answers.Scanned.{Scanned}
use Rattle.orgamish.specs.declared.answers.Checked.{Checked}

abbrev pub build_told : Result Built Refusal → Told
build_told (Ok b) = answer (b.words ∷ b.states ∷ b.longest ∷ [])
build_told (Err r) = refusal_told r

abbrev pub scan_told : Result Scanned Refusal → Told
scan_told (Ok s) = answer (flag s.accepted ∷ s.farthest ∷ s.count ∷ s.probes ∷ [])
scan_told (Err r) = refusal_told r

-- how many readings are written, none or one, and its number of words
abbrev pub first_told : Result ℕ Refusal → Told
first_told (Ok words) = answer (1 ∷ words ∷ [])
first_told (Err r) = refusal_told r

abbrev pub next_told : Result (Option ℕ) Refusal → Told
next_told (Ok None) = answer (0 ∷ [])
next_told (Ok (Some words)) = answer (1 ∷ words ∷ [])
next_told (Err r) = refusal_told r

abbrev pub place_told : Result ℕ Refusal → Told
place_told (Ok n) = answer (n ∷ [])
place_told (Err r) = refusal_told r

abbrev pub book_told : Result Checked Refusal → Told
book_told (Ok b) = answer (b.words ∷ b.blocks ∷ [])
book_told (Err r) = refusal_told r
