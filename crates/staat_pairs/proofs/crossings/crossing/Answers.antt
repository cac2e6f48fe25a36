use Rattle.std.proofs.Common.{lit≤}
use Rattle.staat_vec.specs.declared.vector.TheConstants.{DIRECTION, VERTEX}
use Rattle.staat_vec.proofs.Bounds.{IsWithin-wider}
use Rattle.staat_vec.proofs.Primitives.{IsPrimitive-some}
use Rattle.staat_pairs.proofs.crossings.crossing.Goals as goal

pub returns-clause-some : goal.returns-clause-some
returns-clause-some c = let ray = c.primitive.ensures.ray in IsPrimitive-some c.primitive.result ray.primitive

pub returns-clause-size : goal.returns-clause-size
returns-clause-size c = c.primitive.ensures.size VERTEX c.cross_normal.ensures.size

pub returns-clause-direction : goal.returns-clause-direction
returns-clause-direction c = IsWithin-wider VERTEX DIRECTION c.primitive.result (lit≤ tt) (c.primitive.ensures.size VERTEX c.cross_normal.ensures.size)
