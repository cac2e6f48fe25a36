use Rattle.std.proofs.Common.{take}
use Rattle.std.specs.Prelude.{All}
use Rattle.staat_mesh.specs.Counts.{IsPaired, numbered}
use Rattle.staat_mesh.specs.Edges.{edges}
use Rattle.staat_mesh.proofs.edges.open_corner.Given as goal

abbrev pub invariant-loop-corner : goal.invariant-loop-corner
invariant-loop-corner l = All (IsPaired l.table) (take l.corner (edges (numbered l.numbers l.face)))
