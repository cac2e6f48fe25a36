use Rattle.std.proofs.Common.{ℕ, ◌<◌}
use Rattle.staat_decide.specs.Reaching.{IsMarkedPlace}
use Rattle.staat_decide.proofs.reach.first_unmarked.Given as goal

abbrev pub invariant-loop-j : goal.invariant-loop-j
invariant-loop-j l = (k : ℕ) → k < l.j → IsMarkedPlace l.marks k
