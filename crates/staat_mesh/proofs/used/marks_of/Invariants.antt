use Rattle.std.proofs.Common.{◌≡◌, length, take}
use Rattle.staat_mesh.specs.MarkedVertices.{MarksCorners}
use Rattle.staat_mesh.proofs.used.marks_of.Given as goal

abbrev pub invariant-loop-face : goal.invariant-loop-face
invariant-loop-face l = record {
  number : length l.marks.items ≡ l.vertices;
  corners : MarksCorners (take l.face-index l.faces) l.marks.items;
}
