use Rattle.std.proofs.Common.{◌≡◌, map}
use Rattle.staat_cells.specs.Compositions.{composed_up_to, entry_of}
use Rattle.staat_cells.proofs.compose.composed_cells.Given as goal

-- the cells of the incidences that were passed
abbrev pub invariant-loop-i : goal.invariant-loop-i
invariant-loop-i l = map entry_of l.cells.items ≡ composed_up_to l.kind (map entry_of l.lower) l.incidences l.i
