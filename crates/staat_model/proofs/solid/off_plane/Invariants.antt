use Rattle.std.proofs.Common.{◌≡◌, ℕ, pos, ◌<◌, get_or}
use Rattle.staat_vec.specs.declared.vector.V3.{V3}
use Rattle.staat_vec.specs.Vectors.{dot, minus}
use Rattle.staat_model.proofs.solid.off_plane.Given as goal

abbrev pub invariant-loop-p : goal.invariant-loop-p
invariant-loop-p l = (k : ℕ) (d : V3) → k < l.p-index → dot l.n (minus (get_or l.points k d) l.a) ≡ pos 0
