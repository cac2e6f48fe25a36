use Rattle.std.proofs.Common.{rules}
use Rattle.staat_vec.specs.declared.vector.TheConstants.{DIRECTION}
use Rattle.staat_vec.specs.Vectors.{IsWithin}
use Rattle.staat_decide.proofs.planes.crossing_of.Goals as goal

pub canon-requires-clause-size : goal.canon-requires-clause-size
canon-requires-clause-size c =
    let size : IsWithin DIRECTION c.cross_normal-d.result = search rules in
    c.primitive.ensures.size DIRECTION size
