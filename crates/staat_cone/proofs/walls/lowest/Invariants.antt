use Rattle.std.proofs.Common.{◌≡◌, ℕ, ◌<◌, ◌≤ℤ◌, Contains, get_or}
use Rattle.staat_vec.specs.declared.vector.V3.{V3}
use Rattle.staat_vec.specs.Vectors.{dot}
use Rattle.staat_cone.proofs.walls.lowest.Given as goal

abbrev pub invariant-loop-p : goal.invariant-loop-p
invariant-loop-p l = record {
  member : Contains l.points l.best.point;
  along : l.best.along ≡ dot l.n l.best.point;
  bound : (k : ℕ) (d : V3) → k < l.p-index → l.best.along ≤ℤ dot l.n (get_or l.points k d);
}
