use Rattle.std.proofs.Common.{◌≡◌, ◌+◌, take, length}
use Rattle.std.specs.FinSet as set
use Rattle.staat_model.specs.Sets.{IsSubset, single}
use Rattle.staat_graph.specs.Graphs.{HasArc}
use Rattle.staat_graph.specs.Growing.{Grows, IsFrontier}
use Rattle.staat_graph.proofs.trees.grow.Given as goal

abbrev pub invariant-loop-k : goal.invariant-loop-k
invariant-loop-k l = record {
  grows : Grows (HasArc l.g.ahead.rows) l.w (single l.start) (take l.k l.arcs) l.reached;
  within : IsSubset l.reached l.w;
  size : set.len l.reached ≡ l.k + 1;
  long : length l.arcs ≡ 32;
  ahead : IsFrontier (HasArc l.g.ahead.rows) l.w l.reached l.ahead;
}
