use Rattle.staat_ring.specs.Linking.{AreLinkedBelow}
use Rattle.staat_ring.proofs.build.linked_arrays.Given as goal

abbrev pub invariant-loop-c : goal.invariant-loop-c
invariant-loop-c l = record {
  below : AreLinkedBelow l.table.planes l.planes l.c l.arrays;
}
