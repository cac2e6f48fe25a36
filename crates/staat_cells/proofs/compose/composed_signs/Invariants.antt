use Rattle.std.proofs.Common.{◌≡◌, ◌++◌, drop, take}
use Rattle.staat_cells.specs.Compositions.{composed}
use Rattle.staat_cells.proofs.compose.composed_signs.Given as goal

-- the signs that were passed are composed
abbrev pub invariant-loop-i : goal.invariant-loop-i
invariant-loop-i l = l.signs.items ≡ take l.i (composed l.first l.second) ++ drop l.i l.first
