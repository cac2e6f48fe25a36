use Rattle.std.proofs.Common.{◌≡◌, ◌<◌, ◌≤◌, length, take}
use Rattle.std.specs.Ordering.{nat_cmp}
use Rattle.staat_vec.specs.Lists.{Lists}
use Rattle.staat_planes.specs.MarkedPlanes.{IsPlaneMarked}
use Rattle.staat_planes.proofs.pairs.PlanePairs.of.Given as goal

abbrev pub invariant-loop-k : goal.invariant-loop-k
invariant-loop-k l = record {
  room : length l.numbers ≡ 1024;
  few : l.count ≤ l.k;
  marked : Lists nat_cmp (λ k. (k < l.k) × IsPlaneMarked l.marks k) (take l.count l.numbers);
}
