-- What the jump answers, and what it leaves in the buffer.
use mathlib.Core.Path.{◌≡◌, sym, ap, ◌∙◌, subst}
use mathlib.Core.Option.{Option as Maybe, none, some}
use mathlib.Core.List.{List, []}
use Prim.Native.Nat.{ℕ, ◌≤◌, ◌<◌}
use native.Mathlib.Omega.{arith}
use borrow.Author.Tests.{le-leb, lt-leb}
use lib.ListN.{length, get_or, get_elem?}
use Rattle.std.specs.Prelude.{Some, Ok, Err}
use Rattle.meaning.specs.Words.{Word, Words, Reading}
use Rattle.meaning.specs.Readings.{readings_to, readings, count_at}
use Rattle.meaning.proofs.Lists.{none_at, some_at}
use Rattle.listing.specs.Answers.{Answers}
use Rattle.letters.specs.declared.refusal.Reason.TheVariants.{ShortBuffer}
use Rattle.listing.proofs.Told.{answers_short, answers_words, whole_count}
use Rattle.numbering.specs.Numbers.{Counted, Numbered, Exactly, WrittenIf}
use Rattle.numbering.proofs.Stretches.{exact_count}

module _ {X : Words} {t : Word} {tb ss cs : List ℕ} {m : ℕ} (ξ : Exactly X t tb ss cs m) where
  pub counted : Counted X t tb ss cs m
  counted = record {
    at = record { scanned = ξ.whole.scanned; place = omega (arith, ξ.whole.long) };
    exact = rw ξ.whole.long ξ.exact;
  }

  all : get_or cs m 0 ≡ length (readings X t)
  all = whole_count ξ.whole ∙ ap (count_at X t) ξ.whole.long ∙ exact_count X t (length t) ξ.exact

  pub numbered : {n : ℕ} → n < get_or cs m 0 → Numbered X t tb ss cs m n
  numbered h = record { counted = counted; below = rw ξ.whole.long (omega (arith, all)) }

  -- the reading with that number
  pub none_there : {n : ℕ} → get_or cs m 0 ≤ n → get_elem? (readings X t) n ≡ none
  none_there {n} h = (none_at (readings X t) n).1 (omega (arith, all))

  pub one_there : {n : ℕ} → n < get_or cs m 0 → get_elem? (readings X t) n ≡ some (get_or (readings_to X t m) n [])
  one_there {n} h =
      some_at (readings X t) n [] (omega (arith, all))
      ∙ ap (λ (i : ℕ). some (get_or (readings_to X t i) n [])) (sym ξ.whole.long)

-- by its words written, where they fit
module _ {o : Maybe Reading} {ws : Reading} {b a : List ℕ} {r : ℕ} (w : WrittenIf ws 0 b a r) (e : o ≡ some ws) where
  pub answered_short : length b < r → Answers o b a (Err ShortBuffer)
  answered_short h =
      let same : b ≡ a = sym (rw (lt-leb _ _ h) at w.list) in
      subst (λ (l : List ℕ). Answers o b l (Err ShortBuffer)) same (answers_short ws b e (omega (arith, w.total)))

  pub answered_words : r ≤ length b → Answers o b a (Ok (Some r))
  answered_words h =
      answers_words ws b e (omega (arith, w.total))
      (record { count = omega (arith, w.total); list = rw (le-leb _ _ h) at w.list })
