use Rattle.std.proofs.Common.{◌*◌}
use Rattle.staat_vec.specs.declared.vector.TheConstants.{POINT}
use Rattle.staat_vec.specs.Vectors.{IsWithin}
use Rattle.staat_cone.proofs.search.sum_of.Given as goal

abbrev pub invariant-loop-p : goal.invariant-loop-p
invariant-loop-p l = IsWithin (l.p-index * POINT) l.sum
