use Rattle.std.proofs.Common.{ℕ, ◌<◌}
use Rattle.staat_confirm.specs.Owners.{IsOwner}
use Rattle.staat_confirm.proofs.owners.first_unowned.Given as goal

abbrev pub invariant-loop-p : goal.invariant-loop-p
invariant-loop-p l = (q : ℕ) → q < l.p → (k : ℕ) × IsOwner l.owners q k
