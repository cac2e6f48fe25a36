use Rattle.std.proofs.Common.{◌<◌}
use Rattle.std.specs.Ordering.{nat_cmp}
use Rattle.staat_vec.specs.Lists.{Lists}
use Rattle.staat_graph.specs.Rows.{IsMutualMark}
use Rattle.staat_graph.proofs.rows.group_of.Given as goal

abbrev pub invariant-loop-q : goal.invariant-loop-q
invariant-loop-q l = Lists nat_cmp (λ q. (q < l.q) × IsMutualMark l.table l.p q) l.group.items
