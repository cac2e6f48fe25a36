use Rattle.staat_mesh.specs.Counts.{numbered}
use Rattle.staat_mesh.specs.Edges.{edges}
use Rattle.staat_mesh.proofs.EdgeLemmas.{CountsFront}
use Rattle.staat_mesh.proofs.edges.count_face.Given as goal

abbrev pub invariant-loop-corner : goal.invariant-loop-corner
invariant-loop-corner l = CountsFront l.initial.table l.table (edges (numbered l.numbers l.face)) l.corner
