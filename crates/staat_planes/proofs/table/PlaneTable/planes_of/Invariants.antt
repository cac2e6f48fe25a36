use Rattle.std.proofs.Common.{◌≡◌, take}
use Rattle.staat_planes.specs.PairOrder.{planes_at}
use Rattle.staat_planes.proofs.table.PlaneTable.planes_of.Given as goal

-- the planes of the numbers that were passed
abbrev pub invariant-loop-k : goal.invariant-loop-k
invariant-loop-k l = l.planes.items ≡ planes_at l.self.planes (take l.k-index l.k-items)
