use Rattle.std.specs.Ordering.{nat_cmp}
use Rattle.staat_vec.specs.Lists.{Lists}
use Rattle.staat_holds.proofs.Joining.{IsOfOneBelow}
use Rattle.staat_holds.proofs.last_joined.parts_among.Given as goal

abbrev pub invariant-loop-p : goal.invariant-loop-p
invariant-loop-p l = Lists nat_cmp (IsOfOneBelow l.names l.nodes l.p) l.members.items
