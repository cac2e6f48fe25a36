use Rattle.std.proofs.Common.{ℕ, ◌<◌, [], get_or}
use Rattle.staat_decide.specs.Labels.{LeadsBack}
use Rattle.staat_decide.proofs.order.rows_keep.Given as goal

abbrev pub invariant-loop-i : goal.invariant-loop-i
invariant-loop-i l = (k : ℕ) → k < l.i → LeadsBack (get_or l.rows k []) l.labels (get_or l.labels k 0)
