use Rattle.std.proofs.Common.{ℕ, ◌<◌}
use Rattle.staat_model.specs.Sets.{Has}
use Rattle.staat_graph.specs.Graphs.{HasArc}
use Rattle.staat_core.specs.Moves.{MovesPart}
use Rattle.staat_core.proofs.joins.Joins.shut_part.Given as goal

abbrev pub invariant-loop-p : goal.invariant-loop-p
invariant-loop-p l = (p : ℕ) → Has l.w p → p < l.p → MovesPart (HasArc l.self.ahead.rows) l.w p → ⊥
