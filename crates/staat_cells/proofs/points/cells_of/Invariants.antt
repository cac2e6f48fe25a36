use Rattle.staat_cells.proofs.Composing.{AreCopiedTo}
use Rattle.staat_cells.proofs.points.cells_of.Given as goal

-- the cells of the incidences that were passed
abbrev pub invariant-loop-x : goal.invariant-loop-x
invariant-loop-x l = AreCopiedTo l.cells l.incidences l.x-index l.found.items
