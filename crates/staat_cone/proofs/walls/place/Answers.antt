use Rattle.std.proofs.Common.{arith}
use Rattle.staat_vec.specs.declared.vector.TheConstants.{POINT}
use Rattle.staat_vec.specs.declared.words.TheConstants.{SMALL}
use Rattle.staat_vec.proofs.Bounds.{IsWithin-wider}
use Rattle.staat_cone.proofs.walls.place.Goals as goal

pub small_dot-requires-clause-d : goal.small_dot-requires-clause-d
small_dot-requires-clause-d c = IsWithin-wider POINT SMALL c.args.point (omega arith) c.requires.point
