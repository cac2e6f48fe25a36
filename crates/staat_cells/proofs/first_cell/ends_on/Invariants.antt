use Rattle.std.proofs.Common.{take}
use Rattle.staat_cells.specs.FirstCell.{AreArcEnds}
use Rattle.staat_cells.proofs.first_cell.ends_on.Given as goal

-- the ends of what is on the positive side of none of the planes that were passed
abbrev pub invariant-loop-h : goal.invariant-loop-h
invariant-loop-h l = AreArcEnds l.planes l.g (take l.h-index l.planes) l.ends
