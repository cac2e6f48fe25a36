use Rattle.std.proofs.Common.{ℕ, ◌<◌}
use Rattle.staat_model.specs.declared.set.PartSet.{PartSet}
use Rattle.staat_model.specs.Sets.{Has}
use Rattle.staat_graph.specs.Graphs.{HasArc, IsSink}
use Rattle.staat_graph.proofs.groups.sink_of.Given as goal

abbrev pub invariant-loop-p : goal.invariant-loop-p
invariant-loop-p l = (t : PartSet) (q : ℕ) → q < l.p → IsSink (HasArc l.g.ahead.rows) l.w t → Has t q → ⊥
