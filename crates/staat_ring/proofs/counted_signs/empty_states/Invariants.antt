use Rattle.std.proofs.Common.{◌≡◌}
use Rattle.std.specs.Prelude.{replicate}
use Rattle.staat_ring.specs.CountedSigns.{no_state}
use Rattle.staat_ring.proofs.counted_signs.empty_states.Given as goal

abbrev pub invariant-loop-k : goal.invariant-loop-k
invariant-loop-k l = l.states.items ≡ replicate l._k no_state
