use Rattle.std.proofs.Common.{take}
use Rattle.staat_ring.specs.Order.{IsOrderOf}
use Rattle.staat_ring.proofs.order.in_order.Given as goal

abbrev pub invariant-loop-e : goal.invariant-loop-e
invariant-loop-e l = IsOrderOf l.turn.table.now.planes l.turn.g (take l.e-index l.es) l.entries.items
