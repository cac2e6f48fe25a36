use Rattle.std.proofs.Common.{◌≡◌, length, drop}
use Rattle.staat_ring.specs.Places.{AtNode, IsAtEntry, plane_count}
use Rattle.staat_ring.specs.SignChanges.{with_stop_signs}
use Rattle.staat_ring.proofs.walk.sign_stop.Given as goal

abbrev pub invariant-loop-passed : goal.invariant-loop-passed
invariant-loop-passed l = record {
  size : length l.signs.states ≡ length l.initial.signs.states;
  left : AtNode l.rings.rings l.circle l.node (λ _ s _. IsAtEntry (plane_count l.rings) l.circle s l._passed l.at);
  rest : AtNode l.rings.rings l.circle l.node (λ _ s _. with_stop_signs l.leaves (drop l._passed s.entries) l.signs ≡ with_stop_signs l.leaves s.entries l.initial.signs);
}
