-- Words written over the start of a buffer.
use mathlib.Core.Path.{◌≡◌, refl, sym, ◌∙◌}
use mathlib.Core.List.{List, []}
use Prim.Native.Nat.{ℕ, suc, ◌+◌, ◌<◌}
use native.Mathlib.Omega.{arith}
use lib.ListN.{length, get_or, drop, set}
use lib.Seq.{drop-cons, set-append_seam, append_snoc}
use Rattle.meaning.specs.Words.{Reading, snoc}
use Rattle.meaning.specs.Table.{over}
use Rattle.meaning.proofs.Lists.{snoc-length}
use Rattle.listing.specs.Writing.{Written}

pub written_none : {ws : Reading} {l : List ℕ} → ws ≡ [] → Written ws l l 0
written_none e = rw e (record { count = refl; list = refl })

-- one word more
pub written_more : {ws more : Reading} {before after : List ℕ} {n k m : ℕ} → Written ws before after k → more ≡ snoc ws n
    → k < length before → m ≡ n → Written more before (set after k m) (k + 1)
written_more {ws} {before = b} {after} {n} {k} {m} w e l f =
    rw e (record { count = omega (arith, w.count, snoc-length ws n); list = list })
  where
    list : set after k m ≡ over (snoc ws n) b
    list =
        rw (w.list, w.count, f, drop-cons b (length ws) 0 (omega (arith, w.count)), snoc-length ws n)
        (set-append_seam ws (get_or b (length ws) 0) (drop (suc (length ws)) b) n ∙ sym (append_snoc ws n (drop (suc (length ws)) b)))
