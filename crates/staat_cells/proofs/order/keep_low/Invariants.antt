use Rattle.std.proofs.Common.{◌≡◌, ◌++◌, drop, map, take}
use Rattle.staat_cells.specs.Mirrors.{lesser}
use Rattle.staat_cells.proofs.order.keep_low.Given as goal

-- the lesser stand in place of those that were passed
abbrev pub invariant-loop-i : goal.invariant-loop-i
invariant-loop-i l = l.incidences.items ≡ map (lesser l.sum) (take l.i l.initial.incidences.items)
    ++ drop l.i l.initial.incidences.items
