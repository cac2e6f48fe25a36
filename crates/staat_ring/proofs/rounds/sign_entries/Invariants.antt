use Rattle.std.proofs.Common.{◌≡◌, drop, false, length}
use Rattle.staat_ring.specs.SignChanges.{with_stop_signs}
use Rattle.staat_ring.specs.WholeCircles.{HaveSameFull}
use Rattle.staat_ring.proofs.rounds.sign_entries.Given as goal

abbrev pub invariant-loop-entry : goal.invariant-loop-entry
invariant-loop-entry l = record {
  size : length l.signs.states ≡ length l.initial.signs.states;
  rest : with_stop_signs l.leaves (drop l.entry-index l.entries) l.signs ≡ with_stop_signs l.leaves l.entries l.initial.signs;
  same : l.told ≡ false → HaveSameFull l.initial.signs l.signs;
}
