use Rattle.std.proofs.Common.{take}
use Rattle.std.specs.List.{AllZip}
use Rattle.staat_motion.specs.Shadows.{IsShadow}
use Rattle.staat_motion.proofs.shadow.shadows_of.Given as goal

abbrev pub invariant-loop-j : goal.invariant-loop-j
invariant-loop-j l = AllZip (IsShadow l.frame) (take l.j l.pieces) l.shadows.items
