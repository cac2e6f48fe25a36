use Rattle.std.proofs.Common.{subst, sym}
use Rattle.std.specs.Ordering.{nat_cmp}
use Rattle.staat_vec.specs.Lists.{Lists}
use Rattle.staat_decide.specs.Labels.{HasLabel}
use Rattle.staat_decide.proofs.Steps.{label_more, label_same, no_labels}
use Rattle.staat_decide.proofs.sets.labelled.Goals.{then-labels-i+in_ok-push, else-labels-i}
use Rattle.staat_decide.proofs.sets.labelled.Goals as goal

pub loop-i-init : goal.loop-i-init
loop-i-init c =
    subst (Lists nat_cmp (HasLabel c.args.w.now c.args.labels.now 0 c.args.k)) (sym c.new-s.ensures.items)
    (no_labels c.args.w.now c.args.labels.now c.args.k)

pub loop-i-preserved : goal.loop-i-preserved
loop-i-preserved c =
    let w = c.args.w.now in
    let labels = c.args.labels.now in
    let i = c.loop-i.i in
    elim c.if-labels-i.branch [
      | then-labels-i+in_ok-push b ↦ rw b.s-is (rw b.in_ok-push.ensures.items (label_more w labels i c.args.k c.loop-i.s.items c.requires.ascending c.loop-i-test.true b.if-labels-i.true c.loop-i.invariant))
      | else-labels-i b ↦ rw b.s-is (label_same w labels i c.args.k c.loop-i.s.items b.if-labels-i.false c.loop-i.invariant)
    ]
