use Rattle.std.specs.Ordering.{nat_cmp}
use Rattle.staat_vec.specs.Lists.{Lists}
use Rattle.staat_decide.specs.Labels.{HasLabel}
use Rattle.staat_decide.proofs.sets.labelled.Given as goal

abbrev pub invariant-loop-i : goal.invariant-loop-i
invariant-loop-i l = Lists nat_cmp (HasLabel l.w l.labels l.i l.k) l.s.items
