use Rattle.staat_ring.specs.Belonging.{BelongTo}
use Rattle.staat_ring.specs.Walked.{IsEntered}
use Rattle.staat_space_tests.proofs.circles.around.Given as goal

abbrev pub invariant-loop-place : goal.invariant-loop-place
invariant-loop-place g l = record {
  made : BelongTo l.table l.walk.signs;
  entered : IsEntered l.table.planes l.rings.rings l.walk;
}
