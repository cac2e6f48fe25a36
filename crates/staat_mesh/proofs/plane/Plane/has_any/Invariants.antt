use Rattle.std.proofs.Common.{◌≢◌, ℕ, ◌<◌, get_or}
use Rattle.staat_vec.specs.declared.vector.V3.{V3}
use Rattle.staat_mesh.specs.Planes.{side_of}
use Rattle.staat_mesh.proofs.plane.Plane.has_any.Given as goal

abbrev pub invariant-loop-p : goal.invariant-loop-p
invariant-loop-p l = (k : ℕ) (d : V3) → k < l.p-index → side_of l.self (get_or l.points k d) ≢ l.side
