use Rattle.std.proofs.Common.{ℕ, ◌<◌, ◌≤◌, false, IsTrue, get_or}
use Rattle.staat_decide.proofs.order.row_keeps.Given as goal

abbrev pub invariant-loop-j : goal.invariant-loop-j
invariant-loop-j l = (k : ℕ) → k < l.j → IsTrue (get_or l.row k false) → get_or l.labels k 0 ≤ l.own
