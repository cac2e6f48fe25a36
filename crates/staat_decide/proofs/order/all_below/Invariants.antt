use Rattle.std.proofs.Common.{ℕ, ◌<◌, get_or}
use Rattle.staat_decide.proofs.order.all_below.Given as goal

abbrev pub invariant-loop-l : goal.invariant-loop-l
invariant-loop-l l = (k d : ℕ) → k < l.l-index → get_or l.labels k d < l.count
