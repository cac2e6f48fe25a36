use Rattle.std.proofs.Common.{take}
use Rattle.std.specs.Prelude.{All}
use Rattle.staat_mesh.specs.Judging.{HasClosedEdges}
use Rattle.staat_mesh.specs.Polygons.{mesh}
use Rattle.staat_mesh.proofs.edges.check_edges.Given as goal

abbrev pub invariant-loop-number : goal.invariant-loop-number
invariant-loop-number l = All (HasClosedEdges (mesh l.raw)) (take l.number (mesh l.raw))
