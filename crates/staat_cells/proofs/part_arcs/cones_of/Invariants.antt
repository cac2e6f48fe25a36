use Rattle.std.proofs.Common.{[]}
use Rattle.staat_cells.specs.CellGraphs.{AddsCones, IsPieceAhead}
use Rattle.staat_cells.proofs.Growing.{Below}
use Rattle.staat_cells.proofs.part_arcs.cones_of.Given as goal

abbrev pub invariant-loop-i : goal.invariant-loop-i
invariant-loop-i l = AddsCones (λ signs. Below (λ i. IsPieceAhead l.table l.a l.b i signs) l.i) [] l.cones.items
