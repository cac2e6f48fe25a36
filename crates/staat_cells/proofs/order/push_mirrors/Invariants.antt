use Rattle.std.proofs.Common.{◌≡◌, ◌++◌, map, reverse, take}
use Rattle.staat_cells.specs.Mirrors.{mirrored}
use Rattle.staat_cells.proofs.order.push_mirrors.Given as goal

abbrev pub invariant-loop-i : goal.invariant-loop-i
invariant-loop-i l = l.incidences.items ≡ l.initial.incidences.items
    ++ map (mirrored l.sum) (take l.i (reverse l.initial.incidences.items))
