-- A table moved to the other form: the input's tests come first; and there and back gives the rows that it had.
use mathlib.Core.Path.{◌≡◌, refl, sym, ap, ◌∙◌}
use mathlib.Core.List.{List, ◌∷◌, ◌++◌}
use Prim.Native.Nat.{ℕ, zero, suc, ◌≤◌}
use native.Mathlib.Omega.{arith}
use lib.ListN.{length, take, drop, length-append, take-append-drop}
use lib.Seq.{length-take-le, take-append_seam}
use borrow.Author.Tests.{le-ltb}
use Rattle.meaning.specs.Words.{Words}
use Rattle.meaning.specs.Table.{table, narrow_table, over}
use Rattle.meaning.proofs.Find.{same_refl}
use Rattle.records.specs.Run.{Run, ran, refused}
use Rattle.records.specs.Told.{Told, refusal, answer}
use Rattle.judging.specs.Order.{table_refusal, build_refusal, move_refusal}
use Rattle.orgamish.specs.Calls.{told_by, tells, measures, move_tells, move_leaves, widen_tells, widen_leaves, narrow_tells, narrow_leaves}
use Rattle.orgamish.specs.Answers.{build_told}
use Rattle.std.specs.Prelude.{Ok}
use Rattle.judging.proofs.Verdicts.{Passes}
use Rattle.judging.proofs.Orders.{input_before}
use Rattle.judging.proofs.Cleared.{none_first, begins_with, long_enough}
use Rattle.orgamish.proofs.Called.{Came, came_tells, came_leaves, then_comes}

-- an input that is refused is refused so, whatever the destination
pub input_first : (form other : Words → List ℕ) (run : Run) (input lent : List ℕ) {X : Words} {end n : ℕ} → run ≡ ran X end
    → table_refusal (other X) input ≡ suc n → move_tells form run lent other input ≡ refusal (suc n) 0
input_first form other run input lent {X} {end} {n} is e =
    sym (came_tells (record { end = end; is = is; comes = input_before (other X) (form X) input lent e }) measures)

-- an answer that tells values is no refusal
answered : (test : Words → ℕ) (values : Words → List ℕ) (run : Run) {v : ℕ} {vs : List ℕ} → tells test values run ≡ answer (v ∷ vs)
    → Passes test run
answered test values (refused number place) e = absurd (omega (arith, ap (λ (t : Told). length t.values) e))
answered test values (ran X end) {v} {vs} e = go (test X) refl e
  where
    go : (n : ℕ) → test X ≡ n → told_by n (values X) ≡ answer (v ∷ vs) → Passes test (ran X end)
    go zero q f = record { X = X; end = end; is = refl; clear = q }
    go (suc n) q f = absurd (omega (arith, ap (λ (t : Told). length t.values) f))

fits : (T lent : List ℕ) → length T ≤ length lent → build_refusal T lent ≡ 0
fits T lent h = rw (le-ltb (length lent) (length T) h)

-- a table that was written is right
over_right : (T lent : List ℕ) → table_refusal T (over T lent) ≡ 0
over_right T lent =
    rw (
      le-ltb (length (over T lent)) (length T) (omega (arith, length-append T (drop (length T) lent))),
      take-append_seam T (drop (length T) lent),
      same_refl T,
    )

pub over_itself : (n : ℕ) (l : List ℕ) → n ≤ length l → over (take n l) l ≡ l
over_itself n l h = ap (λ (k : ℕ). take n l ++ drop k l) (length-take-le n l h) ∙ take-append-drop n l

-- from one form to another, and back to numbers with room for it: they are told the same, and get the rows that the input had
module _ (form other : Words → List ℕ) (run : Run) (input lent : List ℕ) {X : Words} {end : ℕ} (is : run ≡ ran X end)
    (clear : move_refusal (other X) (form X) input lent ≡ 0) where
  abbrev moved : List ℕ
  moved = move_leaves form run lent other input

  there : Came (λ Y. move_refusal (other Y) (form Y) input lent) run X 0
  there = record { end = end; is = is; comes = clear }

  moved_is : moved ≡ over (form X) lent
  moved_is = sym (came_leaves there (λ Y. over (form Y) lent) lent)

  right : table_refusal (other X) input ≡ 0
  right = none_first (table_refusal (other X) input) (build_refusal (form X) lent) clear

  module _ (home : List ℕ) (room : length (other X) ≤ length home) where
    back : Came (λ Y. move_refusal (form Y) (other Y) moved home) run X 0
    back = record {
      end = end;
      is = is;
      comes =
          then_comes (table_refusal (form X) moved) (build_refusal (other X) home)
          (ap (table_refusal (form X)) moved_is ∙ over_right (form X) lent) (fits (other X) home room);
    }

    pub back_tells : move_tells other run home form moved ≡ move_tells form run lent other input
    back_tells = sym (came_tells back measures) ∙ came_tells there measures

    pub back_leaves : move_leaves other run home form moved ≡ over (take (length (other X)) input) home
    back_leaves =
        sym (came_leaves back (λ Y. over (other Y) home) home)
        ∙ ap (λ (T : List ℕ). over T home) (sym (begins_with (other X) input right))

-- over the input itself: it is left as it was
comes_back : (form other : Words → List ℕ) (run : Run) (input lent : List ℕ) {v : ℕ} {vs : List ℕ} → move_tells form run lent other input ≡ answer (v ∷ vs)
    → (move_tells other run input form (move_leaves form run lent other input) ≡ answer (v ∷ vs))
    × (move_leaves other run input form (move_leaves form run lent other input) ≡ input)
comes_back form other run input lent e =
    let p = answered (λ X. move_refusal (other X) (form X) input lent) measures run e in
    let room = long_enough (other p.X) input (none_first (table_refusal (other p.X) input) (build_refusal (form p.X) lent) p.clear) in (
      back_tells form other run input lent p.is p.clear input room ∙ e,
      back_leaves form other run input lent p.is p.clear input room ∙ over_itself (length (other p.X)) input room,
    )

-- a narrow table nt that is widened to tb, and narrowed again
pub widened_back : (run : Run) (tb nt : List ℕ) {w n r : ℕ} → widen_tells run tb nt ≡ build_told (Ok (record { words = w; states = n; longest = r }))
    → (narrow_tells run (widen_leaves run tb nt) nt ≡ build_told (Ok (record { words = w; states = n; longest = r }))) × (narrow_leaves run (widen_leaves run tb nt) nt ≡ nt)
widened_back run tb nt e = comes_back table narrow_table run nt tb e

-- a table tb that is narrowed to nt, and widened again
pub narrowed_back : (run : Run) (tb nt : List ℕ) {w n r : ℕ} → narrow_tells run tb nt ≡ build_told (Ok (record { words = w; states = n; longest = r }))
    → (widen_tells run tb (narrow_leaves run tb nt) ≡ build_told (Ok (record { words = w; states = n; longest = r }))) × (widen_leaves run tb (narrow_leaves run tb nt) ≡ tb)
narrowed_back run tb nt e = comes_back narrow_table table run tb nt e
