use Rattle.std.specs.Ordering.{nat_cmp}
use Rattle.staat_vec.specs.Lists.{Lists}
use Rattle.staat_rest.proofs.HeadSteps.{IsNameBelow}
use Rattle.staat_rest.proofs.merging.heads_of.Given as goal

abbrev pub invariant-loop-p : goal.invariant-loop-p
invariant-loop-p l = Lists nat_cmp (IsNameBelow l.names l.p) l.heads.items
