use Rattle.std.proofs.Common.{◌≤◌, take, All}
use Rattle.staat_ring.specs.Places.{AtNode, IsAtEntry, plane_count}
use Rattle.staat_ring.proofs.walk.entry_after.Given as goal

abbrev pub invariant-loop-passed : goal.invariant-loop-passed
invariant-loop-passed l = record {
  left : AtNode l.rings.rings l.circle l.node (λ _ s _. IsAtEntry (plane_count l.rings) l.circle s l._passed l.at);
  passed : AtNode l.rings.rings l.circle l.node (λ _ s _. All (λ e. e.plane ≤ l.i) (take l._passed s.entries));
}
