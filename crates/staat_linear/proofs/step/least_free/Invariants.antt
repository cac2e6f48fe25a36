use Rattle.std.proofs.Common.{ℕ, ◌<◌}
use Rattle.staat_model.specs.Sets.{Has}
use Rattle.staat_linear.specs.Holding.{IsHeld}
use Rattle.staat_linear.proofs.step.least_free.Given as goal

abbrev pub invariant-loop-p : goal.invariant-loop-p
invariant-loop-p l = (q : ℕ) → Has l.w q → q < l.p → IsHeld l.graph.rows l.w q
