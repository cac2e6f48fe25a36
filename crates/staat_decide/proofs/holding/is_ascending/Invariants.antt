use Rattle.std.proofs.Common.{ℕ, ◌+◌, ◌<◌, get_or}
use Rattle.staat_decide.proofs.holding.is_ascending.Given as goal

abbrev pub invariant-loop-k : goal.invariant-loop-k
invariant-loop-k l = (j d : ℕ) → j + 1 < l.k → get_or l.w j d < get_or l.w (j + 1) d
