use Rattle.staat_mesh.proofs.MarkLemmas.{MarksFront}
use Rattle.staat_mesh.proofs.used.mark.Given as goal

abbrev pub invariant-loop-vertex : goal.invariant-loop-vertex
invariant-loop-vertex l = MarksFront l.initial.marks l.face l.vertex-index l.marks
