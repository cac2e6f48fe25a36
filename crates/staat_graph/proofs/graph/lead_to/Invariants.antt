use Rattle.std.proofs.Common.{◌≡◌, ℕ, ◌↔◌, ◌⊎◌, length}
use Rattle.std.specs.FinSet as set
use Rattle.staat_model.specs.Sets.{Has, IsSubset}
use Rattle.staat_graph.specs.Graphs.{HasArc}
use Rattle.staat_graph.proofs.graph.lead_to.Given as goal

abbrev pub invariant-parts : goal.invariant-parts
invariant-parts l = record {
  long : length l.rows ≡ 32;
  within : IsSubset l.left l.fn.from;
  added : (b q : ℕ) → HasArc l.rows b q ↔ (HasArc l.fn.rows b q ⊎ (Has l.fn.from b × (Has l.left b → ⊥) × (q ≡ l.a)));
}

abbrev pub decreases-parts : goal.decreases-parts
decreases-parts l = set.len l.left
