use Rattle.staat_cells.proofs.ZeroPlaces.{HasZerosTo}
use Rattle.staat_cells.proofs.zero_signs.zeros_of.Given as goal

-- the zeros that were passed
abbrev pub invariant-loop-j : goal.invariant-loop-j
invariant-loop-j l = HasZerosTo l.signs l.j l.zeros.items
