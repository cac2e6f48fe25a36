use Rattle.staat_motion.specs.Motions.{IsMotionOf}
use Rattle.staat_confirm.specs.Splits.{AreClearBefore}
use Rattle.staat_confirm.proofs.splits.first_reason.Given as goal

abbrev pub invariant-loop-k : goal.invariant-loop-k
invariant-loop-k g l = record {
  made : IsMotionOf l.judged.product.now l.along;
  clear : AreClearBefore l.judged.product.now l.judged.nodes.now l.k;
}
