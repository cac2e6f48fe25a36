use Rattle.std.proofs.Common.{◌≡◌, ℕ, ◌-◌, length}
use Rattle.staat_holds.specs.VisitedNodes.{KeepsVisited, ReachesVisited, visited_count}
use Rattle.staat_holds.proofs.reach.mark_all.Given as goal

abbrev pub invariant-rounds : goal.invariant-rounds
invariant-rounds l = record {
  long : length l.marks ≡ length l.initial.marks;
  kept : KeepsVisited l.initial.marks l.marks;
  reached : (x : ℕ) → ReachesVisited l.ways x l.initial.marks → ReachesVisited l.ways x l.marks;
}

abbrev pub decreases-rounds : goal.decreases-rounds
decreases-rounds l = length l.marks - visited_count l.marks
