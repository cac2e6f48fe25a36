use Rattle.std.proofs.Common.{ℕ, ◌<◌, ◌≤◌}
use Rattle.staat_decide.specs.Reaching.{IsMarkedPlace, LeadsToMarked}
use Rattle.staat_decide.proofs.reach.next_within.Given as goal

abbrev pub invariant-loop-i : goal.invariant-loop-i
invariant-loop-i l = (k : ℕ) → l.low ≤ k → k < l.i → IsMarkedPlace l.marks k → LeadsToMarked l.way l.rows l.marks k
