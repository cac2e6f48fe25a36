use Rattle.std.proofs.Common.{ℕ, ◌-◌}
use Rattle.std.specs.FinSet as set
use Rattle.staat_model.specs.Sets.{Has, IsSubset}
use Rattle.staat_graph.specs.Graphs.{HasArc, Walks}
use Rattle.staat_graph.proofs.walks.reach.Given as goal

abbrev pub invariant-parts : goal.invariant-parts
invariant-parts l = record {
  start : Has l.reached l.from;
  walks : (q : ℕ) → Has l.reached q → Walks (HasArc l.g.rows) l.w l.from q;
  left_in : IsSubset l.left l.w;
  left_by_all : (a b : ℕ) → Has l.left a → Has l.w b → HasArc l.g.rows a b → Has l.reached b;
}

abbrev pub decreases-parts : goal.decreases-parts
decreases-parts l = set.len l.w - set.len l.left
