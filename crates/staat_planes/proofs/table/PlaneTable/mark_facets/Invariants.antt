use Rattle.std.proofs.Common.{◌≡◌, get_or}
use Rattle.staat_vec.specs.Primitives.{canon}
use Rattle.staat_vec.specs.Vectors.{origin}
use Rattle.staat_pairs.specs.Tables.{facets_of}
use Rattle.staat_planes.specs.MarkedPlanes.{AddsMarks}
use Rattle.staat_planes.proofs.Marking.{IsBelow}
use Rattle.staat_planes.proofs.table.PlaneTable.mark_facets.Given as goal

abbrev pub invariant-loop-m : goal.invariant-loop-m
invariant-loop-m l = AddsMarks l.self.planes (IsBelow (λ m n. n ≡ canon (get_or (facets_of l.self l.arc) m origin)) l.m) l.initial.marks l.marks
