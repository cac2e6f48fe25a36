use Rattle.std.proofs.Common.{ℕ, ◌<◌}
use Rattle.staat_decide.specs.Reaching.{IsMarkedPlace, Leads}
use Rattle.staat_decide.proofs.reach.next_from.Given as goal

abbrev pub invariant-loop-j : goal.invariant-loop-j
invariant-loop-j l = (k : ℕ) → k < l.j → Leads l.way l.rows l.i k → IsMarkedPlace l.marks k
