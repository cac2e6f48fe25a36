use Rattle.std.proofs.Common.{◌≡◌, length}
use Rattle.staat_asm.proofs.PlacingLemmas.{half_shifted}
use Rattle.staat_asm.proofs.placing.shift.Given as goal

abbrev pub invariant-loop-k : goal.invariant-loop-k
invariant-loop-k l = record {
  items : l.points.items ≡ half_shifted l.at l.k l.fn.points.items;
  end : l.k-end ≡ length l.points.items;
}
