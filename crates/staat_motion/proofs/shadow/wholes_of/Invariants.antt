use Rattle.std.proofs.Common.{take}
use Rattle.std.specs.List.{AllZip}
use Rattle.staat_motion.specs.Shadows.{IsWholeOf}
use Rattle.staat_motion.proofs.shadow.wholes_of.Given as goal

abbrev pub invariant-loop-pieces : goal.invariant-loop-pieces
invariant-loop-pieces l = AllZip IsWholeOf (take l.pieces-index l.shadows) l.wholes.items
