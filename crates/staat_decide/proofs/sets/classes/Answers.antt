use Rattle.std.proofs.Common.{◌+◌, arith, List, [], ◌∷◌, ◌++◌, ℕ, subst, sym}
use Rattle.staat_decide.specs.Labels.{AreClasses}
use Rattle.staat_decide.proofs.Steps.{class_more, class_same, no_classes}
use Rattle.staat_decide.proofs.sets.classes.Goals.{then-len-gt0+in_ok-push, else-len-gt0}
use Rattle.staat_decide.proofs.sets.classes.Goals as goal

pub loop-k-init : goal.loop-k-init
loop-k-init c = subst (AreClasses c.args.w.now c.args.labels.now 0) (sym c.new-sets.ensures.items) (no_classes c.args.w.now c.args.labels.now)

pub loop-k-preserved : goal.loop-k-preserved
loop-k-preserved c =
    let w = c.args.w.now in
    let labels = c.args.labels.now in
    let k = c.loop-k.k in
    let sets = c.loop-k.sets.items in
    let s = c.in_ok-s.s.items in
    elim c.if-len-gt0.branch [
      | then-len-gt0+in_ok-push b ↦ rw b.sets-is (rw b.in_ok-push.ensures.items
          (subst (λ (t : List ℕ). AreClasses w labels (k + 1) (sets ++ t ∷ [])) (sym b.from_vec.ensures)
          (class_more w labels k sets s (omega (arith, b.if-len-gt0.true, c.len.ensures)) c.in_ok-s.ensures c.loop-k.invariant)))
      | else-len-gt0 b ↦ rw b.sets-is (class_same w labels k sets s (omega (arith, b.if-len-gt0.false, c.len.ensures)) c.in_ok-s.ensures c.loop-k.invariant)
    ]
