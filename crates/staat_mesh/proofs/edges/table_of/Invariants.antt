use Rattle.std.proofs.Common.{take}
use Rattle.std.specs.List.{flat_map}
use Rattle.staat_mesh.specs.Counts.{Counts, numbered}
use Rattle.staat_mesh.specs.Edges.{edges}
use Rattle.staat_mesh.proofs.edges.table_of.Given as goal

abbrev pub invariant-loop-face : goal.invariant-loop-face
invariant-loop-face l = Counts l.table (flat_map (λ face. edges (numbered l.numbers face)) (take l.face-index l.faces))
