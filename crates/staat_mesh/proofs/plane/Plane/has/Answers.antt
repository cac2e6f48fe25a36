use Rattle.std.proofs.Common.{arith}
use Rattle.staat_vec.specs.declared.vector.TheConstants.{DIFF}
use Rattle.staat_vec.specs.declared.words.TheConstants.{SMALL}
use Rattle.staat_vec.proofs.Bounds.{IsWithin-wider}
use Rattle.staat_mesh.proofs.plane.Plane.has.Goals as goal

pub small_sign-requires-clause-d : goal.small_sign-requires-clause-d
small_sign-requires-clause-d c = IsWithin-wider DIFF SMALL c.sub.result (omega arith) c.sub.ensures.size
