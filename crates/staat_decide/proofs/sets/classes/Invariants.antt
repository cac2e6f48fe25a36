use Rattle.staat_decide.specs.Labels.{AreClasses}
use Rattle.staat_decide.proofs.sets.classes.Given as goal

abbrev pub invariant-loop-k : goal.invariant-loop-k
invariant-loop-k l = AreClasses l.w l.labels l.k l.sets.items
