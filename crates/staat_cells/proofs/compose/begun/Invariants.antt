use Rattle.std.proofs.Common.{◌≡◌}
use Rattle.staat_cells.specs.Compositions.{begun_up_to}
use Rattle.staat_cells.proofs.compose.begun.Given as goal

-- the incidences that were passed
abbrev pub invariant-loop-i : goal.invariant-loop-i
invariant-loop-i l = l.found.items ≡ begun_up_to l.incidences l.i
