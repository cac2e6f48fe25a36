use Rattle.std.proofs.Common.{◌≤◌, take}
use Rattle.staat_graph.specs.Graphs.{HasArc}
use Rattle.staat_graph.proofs.Classes.{Below}
use Rattle.staat_graph.proofs.groups.strong_parts.Given as goal

abbrev pub invariant-loop-p : goal.invariant-loop-p
invariant-loop-p l = record {
  room : l.count ≤ l.p;
  below : Below (HasArc l.g.ahead.rows) l.w l.p (take l.count l.of) l.rest;
}
