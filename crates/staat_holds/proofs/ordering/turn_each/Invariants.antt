use Rattle.std.proofs.Common.{◌≡◌, ◌++◌, drop, map, take}
use Rattle.staat_holds.specs.Holds.{lesser_first}
use Rattle.staat_holds.proofs.ordering.turn_each.Given as goal

abbrev pub invariant-loop-pair : goal.invariant-loop-pair
invariant-loop-pair l = l.pairs ≡ map lesser_first (take l.pair-index l.fn.pairs) ++ drop l.pair-index l.fn.pairs
