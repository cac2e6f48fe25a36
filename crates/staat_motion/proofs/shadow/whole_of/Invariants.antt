use Rattle.std.proofs.Common.{take}
use Rattle.staat_motion.specs.Shadows.{IsWholeOf}
use Rattle.staat_motion.proofs.shadow.whole_of.Given as goal

abbrev pub invariant-loop-k : goal.invariant-loop-k
invariant-loop-k l = IsWholeOf (take l.k l.shadows) l.whole
