use Rattle.staat_cells.specs.CellGraphs.{AddsCones, IsPairAhead}
use Rattle.staat_cells.proofs.Growing.{Below}
use Rattle.staat_cells.proofs.part_arcs.push_piece.Given as goal

abbrev pub invariant-loop-j : goal.invariant-loop-j
invariant-loop-j l =
    AddsCones (λ signs. Below (λ j. IsPairAhead l.table l.a l.i l.b j signs) l.j) l.initial.cones.items l.cones.items
