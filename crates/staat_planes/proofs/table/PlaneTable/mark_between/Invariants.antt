use Rattle.staat_pairs.specs.Searches.{IsCanonOf, arc_of}
use Rattle.staat_pairs.specs.Tables.{facets_of, pieces_of}
use Rattle.staat_planes.specs.MarkedPlanes.{AddsMarks}
use Rattle.staat_planes.proofs.Marking.{IsBelow}
use Rattle.staat_planes.proofs.table.PlaneTable.mark_between.Given as goal

abbrev pub invariant-loop-i : goal.invariant-loop-i
invariant-loop-i l = AddsMarks l.self.planes (IsBelow (λ i. IsBelow (λ j n. IsCanonOf (facets_of l.self (arc_of l.a i l.b j)) n) (pieces_of l.self l.b)) l.i) l.initial.marks l.marks

abbrev pub invariant-loop-j : goal.invariant-loop-j
invariant-loop-j l = AddsMarks l.self.planes (IsBelow (λ j n. IsCanonOf (facets_of l.self (arc_of l.a l.i l.b j)) n) l.j) l.initial.marks l.marks
