use Rattle.std.proofs.Common.{◌≡◌, ◌<◌, ◌+◌, ◌-◌, ℕ, List, [], length, drop, sym, subst, ap, ◌∙◌, arith, refl}
use Rattle.letters.specs.Letters.{mapped, part}
use Rattle.records.specs.Classes.{classes, class_of}
use Rattle.records.proofs.Classes.{Behind, class_below, behind_all, behind_more, class_more}
use Rattle.records.proofs.repeats.class_of.Goals as goal

-- nothing is passed yet
starts : (m u rest : List ℕ) → rest ≡ u → Behind u rest × (0 ≡ class_of (mapped m (drop (length rest) u)))
unfolding class_of
starts m u rest e =
    let (all, none) = behind_all u in
    subst (λ (v : List ℕ). Behind u v × (0 ≡ class_of (mapped m (drop (length v) u)))) (sym e) (all, rw none refl)

pub loop-x-init : goal.loop-x-init
loop-x-init c =
    let long : c.args.p + c.args.n - c.args.p ≡ c.args.n = omega arith in
    starts c.args.map.now (part c.args.bytes.now c.args.p c.args.n) _ (cc)

pub overflow_mul-class : goal.overflow_mul-class
overflow_mul-class c = let below : c.loop-x.class < classes = rw c.loop-x.invariant.1 (class_below _) in omega (arith, below)

pub overflow_add-class : goal.overflow_add-class
overflow_add-class c = let below : c.loop-x.class < classes = rw c.loop-x.invariant.1 (class_below _) in omega (arith, below)

pub loop-x-preserved : goal.loop-x-preserved
loop-x-preserved c =
    let (β, so_far) = c.loop-x.invariant in
    let e = c.in-Some.ensures.steps in
    (behind_more β _ _ e, rw (c.from.ensures, c.letter.ensures, so_far) (class_more β _ _ e c.args.map.now))
