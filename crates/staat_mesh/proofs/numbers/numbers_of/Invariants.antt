use Rattle.std.proofs.Common.{take}
use Rattle.staat_mesh.specs.Counts.{Numbers}
use Rattle.staat_mesh.proofs.numbers.numbers_of.Given as goal

abbrev pub invariant-loop-vertex : goal.invariant-loop-vertex
invariant-loop-vertex l = Numbers l.points (take l.vertex-index l.vertices) l.numbers.items
