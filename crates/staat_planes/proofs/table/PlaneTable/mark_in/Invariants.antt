use Rattle.staat_model.specs.Sets.{Has}
use Rattle.staat_pairs.specs.Searches.{HasPlaneOf}
use Rattle.staat_planes.specs.MarkedPlanes.{AddsMarks}
use Rattle.staat_planes.proofs.Marking.{IsBelow}
use Rattle.staat_planes.proofs.table.PlaneTable.mark_in.Given as goal

abbrev pub invariant-loop-a : goal.invariant-loop-a
invariant-loop-a l = AddsMarks l.self.planes (IsBelow (λ a n. Has l.w a × HasPlaneOf l.self l.w n a) l.a) l.initial.marks l.marks
