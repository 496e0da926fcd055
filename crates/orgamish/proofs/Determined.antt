-- The contracts decide: any two outcomes that a call's contract allows are equal.
use mathlib.Core.Path.{◌≡◌, refl, sym, ap, ◌∙◌}
use mathlib.Core.Bool.{Bool, true, false}
use mathlib.Core.List.{List}
use Prim.Native.Nat.{ℕ}
use native.Mathlib.Omega.{arith}
use Rattle.meaning.specs.Words.{Word, Words}
use Rattle.records.specs.Run.{Run}
use Rattle.records.specs.Book.{Opened, Block}
use Rattle.records.specs.Told.{Told}
use Rattle.orgamish.specs.Calls.{flag, build_tells, build_leaves, widen_tells, widen_leaves, narrow_tells, narrow_leaves, scan_tells, scan_leaves_states, scan_leaves_counts, first_tells, first_leaves, next_tells, next_leaves, jump_tells, jump_leaves, place_tells, check_tells}
use Rattle.orgamish.specs.Answers.{build_told, scan_told, first_told, next_told, place_told, book_told}
use Rattle.std.specs.Prelude.{Option, None, Some, Result, Ok, if◌then◌else◌}
use lib.Dec.{eqb}
use lib.ListN.{get_or}
use Rattle.letters.specs.declared.refusal.Refusal.{Refusal}
use Rattle.records.proofs.Determined.{told_apart}
use Rattle.orgamish.specs.declared.answers.Built.{Built}
use Rattle.orgamish.specs.declared.answers.Scanned.{Scanned}
use Rattle.orgamish.specs.declared.answers.Checked.{Checked}

pub flag_once : (b c : Bool) → flag b ≡ flag c → b ≡ c
flag_once true true e = refl
flag_once true false e = absurd (omega arith)
flag_once false true e = absurd (omega arith)
flag_once false false e = refl

-- answers that tell the same are the same
build_once : (r s : Result Built Refusal) → build_told r ≡ build_told s → r ≡ s
build_once =
    told_apart build_told
    (λ v. record { words = get_or v 0 0; states = get_or v 1 0; longest = get_or v 2 0 })
    (λ b. refl)
    (λ r. refl)

flag_is : (b : Bool) → eqb (flag b) 1 ≡ b
flag_is true = refl
flag_is false = refl

scan_once : (r s : Result Scanned Refusal) → scan_told r ≡ scan_told s → r ≡ s
scan_once =
    told_apart scan_told
    (λ v. record { accepted = eqb (get_or v 0 0) 1; farthest = get_or v 1 0; count = get_or v 2 0; probes = get_or v 3 0 })
    (λ s. ap (λ (b : Bool). Ok (record { accepted = b; farthest = s.farthest; count = s.count; probes = s.probes })) (flag_is s.accepted))
    (λ r. refl)

first_once : (r s : Result ℕ Refusal) → first_told r ≡ first_told s → r ≡ s
first_once = told_apart first_told (λ v. get_or v 1 0) (λ n. refl) (λ r. refl)

next_once : (r s : Result (Option ℕ) Refusal) → next_told r ≡ next_told s → r ≡ s
next_once =
    told_apart next_told (λ v. if eqb (get_or v 0 0) 0 then None else Some (get_or v 1 0)) (elim [ None ↦ refl | Some n ↦ refl ]) (λ r. refl)

place_once : (r s : Result ℕ Refusal) → place_told r ≡ place_told s → r ≡ s
place_once = told_apart place_told (λ v. get_or v 0 0) (λ n. refl) (λ r. refl)

book_once : (r s : Result Checked Refusal) → book_told r ≡ book_told s → r ≡ s
book_once = told_apart book_told (λ v. record { words = get_or v 0 0; blocks = get_or v 1 0 }) (λ b. refl) (λ r. refl)

-- what a contract allows that is to tell so and to leave a table so, and so on
abbrev TableAllows : Told → List ℕ → Result Built Refusal → List ℕ → Type 0
TableAllows told left r table = (build_told r ≡ told) × (table ≡ left)

table_decides : (told : Told) (left : List ℕ) (r s : Result Built Refusal) (t u : List ℕ) → TableAllows told left r t → TableAllows told left s u
    → (r ≡ s) × (t ≡ u)
table_decides told left r s t u p q = (build_once r s (p.0 ∙ sym q.0), p.1 ∙ sym q.1)

module _ (run : Run) (tb : List ℕ) where
  pub build_decides : (r s : Result Built Refusal) (t u : List ℕ) → TableAllows (build_tells run tb) (build_leaves run tb) r t
      → TableAllows (build_tells run tb) (build_leaves run tb) s u → (r ≡ s) × (t ≡ u)
  build_decides = table_decides (build_tells run tb) (build_leaves run tb)

  module _ (nt : List ℕ) where
    pub widen_decides : (r s : Result Built Refusal) (t u : List ℕ) → TableAllows (widen_tells run tb nt) (widen_leaves run tb nt) r t
        → TableAllows (widen_tells run tb nt) (widen_leaves run tb nt) s u → (r ≡ s) × (t ≡ u)
    widen_decides = table_decides (widen_tells run tb nt) (widen_leaves run tb nt)

    pub narrow_decides : (r s : Result Built Refusal) (t u : List ℕ) → TableAllows (narrow_tells run tb nt) (narrow_leaves run tb nt) r t
        → TableAllows (narrow_tells run tb nt) (narrow_leaves run tb nt) s u → (r ≡ s) × (t ≡ u)
    narrow_decides = table_decides (narrow_tells run tb nt) (narrow_leaves run tb nt)

  module _ (t : Word) (ss cs : List ℕ) where
    abbrev ScanAllows : Result Scanned Refusal → List ℕ → List ℕ → Type 0
    ScanAllows r states counts =
        (scan_told r ≡ scan_tells run tb t ss cs)
        × (states ≡ scan_leaves_states run tb t ss cs)
        × (counts ≡ scan_leaves_counts run tb t ss cs)

    pub scan_decides : (r s : Result Scanned Refusal) (o u v w : List ℕ) → ScanAllows r o v → ScanAllows s u w → (r ≡ s) × (o ≡ u) × (v ≡ w)
    scan_decides r s o u v w p q = (scan_once r s (p.0 ∙ sym q.0), p.1 ∙ sym q.1, p.2 ∙ sym q.2)

    module _ (buffer : List ℕ) where
      abbrev FirstAllows : Result ℕ Refusal → List ℕ → Type 0
      FirstAllows r reading = (first_told r ≡ first_tells run tb t ss cs buffer) × (reading ≡ first_leaves run tb t ss cs buffer)

      pub first_decides : (r s : Result ℕ Refusal) (v w : List ℕ) → FirstAllows r v → FirstAllows s w → (r ≡ s) × (v ≡ w)
      first_decides r s v w p q = (first_once r s (p.0 ∙ sym q.0), p.1 ∙ sym q.1)

      module _ (k : ℕ) where
        abbrev NextAllows : Result (Option ℕ) Refusal → List ℕ → Type 0
        NextAllows r reading = (next_told r ≡ next_tells run tb t ss cs buffer k) × (reading ≡ next_leaves run tb t ss cs buffer k)

        pub next_decides : (r s : Result (Option ℕ) Refusal) (v w : List ℕ) → NextAllows r v → NextAllows s w → (r ≡ s) × (v ≡ w)
        next_decides r s v w p q = (next_once r s (p.0 ∙ sym q.0), p.1 ∙ sym q.1)

        pub place_decides : (r s : Result ℕ Refusal) → place_told r ≡ place_tells run tb t ss cs buffer k
            → place_told s ≡ place_tells run tb t ss cs buffer k → r ≡ s
        place_decides r s p q = place_once r s (p ∙ sym q)

      module _ (n : ℕ) where
        abbrev JumpAllows : Result ℕ Refusal → List ℕ → Type 0
        JumpAllows r reading = (first_told r ≡ jump_tells run tb t ss cs buffer n) × (reading ≡ jump_leaves run tb t ss cs buffer n)

        pub jump_decides : (r s : Result ℕ Refusal) (v w : List ℕ) → JumpAllows r v → JumpAllows s w → (r ≡ s) × (v ≡ w)
        jump_decides r s v w p q = (first_once r s (p.0 ∙ sym q.0), p.1 ∙ sym q.1)

pub book_decides : (o : Opened) (r s : Result Checked Refusal) → book_told r ≡ check_tells o → book_told s ≡ check_tells o → r ≡ s
book_decides o r s p q = book_once r s (p ∙ sym q)

pub part_decides : {b : List ℕ} {T : Words} {n offset : ℕ} {start len start' len' : ℕ} → Block b T n offset start len
    → Block b T n offset start' len' → (start ≡ start') × (len ≡ len')
part_decides p q = (p.stands ∙ sym q.stands, p.length_is ∙ sym q.length_is)
