use Rattle.std.proofs.Common.{take}
use Rattle.staat_motion.specs.Shadows.{ArePartShadows}
use Rattle.staat_motion.proofs.shadow.part_shadows.Given as goal

abbrev pub invariant-loop-k : goal.invariant-loop-k
invariant-loop-k l = ArePartShadows l.frame (take l.k l.parts) l.all.items
