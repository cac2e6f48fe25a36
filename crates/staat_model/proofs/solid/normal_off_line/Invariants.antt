use Rattle.std.proofs.Common.{◌≡◌, ℕ, ◌<◌, get_or}
use Rattle.staat_vec.specs.declared.vector.V3.{V3}
use Rattle.staat_vec.specs.Vectors.{cross, minus, origin}
use Rattle.staat_model.proofs.solid.normal_off_line.Given as goal

abbrev pub invariant-loop-p : goal.invariant-loop-p
invariant-loop-p l = (k : ℕ) (d : V3) → k < l.p-index → cross l.along (minus (get_or l.points k d) l.a) ≡ origin
