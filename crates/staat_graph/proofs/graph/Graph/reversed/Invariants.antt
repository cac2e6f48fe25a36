use Rattle.std.proofs.Common.{◌≡◌, ℕ, ◌<◌, ◌↔◌, length}
use Rattle.staat_graph.specs.Graphs.{HasArc}
use Rattle.staat_graph.proofs.graph.Graph.reversed.Given as goal

abbrev pub invariant-loop-a : goal.invariant-loop-a
invariant-loop-a l = record {
  long : length l.rows ≡ 32;
  turned : (b q : ℕ) → HasArc l.rows b q ↔ ((q < l.a) × HasArc l.self.rows q b);
}
