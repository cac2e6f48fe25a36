use Rattle.std.proofs.Common.{arith}
use Rattle.staat_vec.specs.declared.vector.TheConstants.{DIRECTION, VERTEX}
use Rattle.staat_vec.proofs.Bounds.{IsWithin-wider}
use Rattle.staat_decide.proofs.planes.crossing.Goals as goal

pub returns : goal.returns
returns c = IsWithin-wider VERTEX DIRECTION c.cross_normal.result (omega arith) c.cross_normal.ensures.size
