use Rattle.std.proofs.Common.{◌-◌, [], get_or, length}
use Rattle.staat_cells.specs.CellGraphs.{AddsCones}
use Rattle.staat_cells.specs.HalfSpaces.{AreInside}
use Rattle.staat_cells.proofs.Growing.{Below}
use Rattle.staat_cells.proofs.half_spaces.wide_cones.Given as goal

-- the wide cones hold what the last cones hold
abbrev pub invariant-loop-k : goal.invariant-loop-k
invariant-loop-k l =
    AddsCones (λ signs. Below (λ j. AreInside signs (get_or l.cones (length l.cones - 1 - j) [])) l.k) [] l.wide.items
