use Rattle.std.proofs.Common.{◌≡◌, take}
use Rattle.staat_mesh.specs.Polygons.{polygon}
use Rattle.staat_mesh.proofs.faces.trace.Given as goal

abbrev pub invariant-loop-vertex : goal.invariant-loop-vertex
invariant-loop-vertex l = l.corners.items ≡ polygon l.vertices (take l.vertex-index l.face)
