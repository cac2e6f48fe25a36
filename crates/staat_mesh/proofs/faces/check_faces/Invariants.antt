use Rattle.std.proofs.Common.{take}
use Rattle.std.specs.Prelude.{All}
use Rattle.staat_mesh.specs.Polygons.{mesh}
use Rattle.staat_mesh.specs.Sides.{IsSupporting}
use Rattle.staat_mesh.proofs.faces.check_faces.Given as goal

abbrev pub invariant-loop-number : goal.invariant-loop-number
invariant-loop-number l = All (IsSupporting l.points) (take l.number (mesh l.raw))
