use Rattle.std.proofs.Common.{[], drop}
use Rattle.staat_model.specs.Planes.{vertices}
use Rattle.staat_pairs.specs.Directions.{ListsBehind}
use Rattle.staat_pairs.proofs.vertices.directions.Given as goal

abbrev pub invariant-loop-k : goal.invariant-loop-k
invariant-loop-k l = ListsBehind l.version (vertices l.planes) (vertices (drop l.k l.planes)) [] l.taken.items
