use Rattle.std.proofs.Common.{drop}
use Rattle.staat_model.specs.Certificates.{IsListed}
use Rattle.staat_model.specs.Planes.{vertices}
use Rattle.staat_check.specs.Searches.{AskedBehind}
use Rattle.staat_check.proofs.covered.are_vertices_placed.Given as goal

abbrev pub invariant-loop-k : goal.invariant-loop-k
invariant-loop-k l = AskedBehind (IsListed l.version l.dirs) (vertices l.planes) (vertices (drop l.k l.planes))
