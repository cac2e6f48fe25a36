use Rattle.std.proofs.Common.{◌<◌}
use Rattle.staat_model.specs.Sets.{Has}
use Rattle.staat_pairs.specs.Searches.{HasPlaneBetween}
use Rattle.staat_planes.specs.MarkedPlanes.{AddsMarks}
use Rattle.staat_planes.proofs.Marking.{IsBelow}
use Rattle.staat_planes.proofs.table.PlaneTable.mark_of.Given as goal

abbrev pub invariant-loop-b : goal.invariant-loop-b
invariant-loop-b l = AddsMarks l.self.planes (IsBelow (λ b n. (l.a < b) × Has l.w b × HasPlaneBetween l.self n l.a b) l.b) l.initial.marks l.marks
