use Rattle.std.proofs.Common.{take}
use Rattle.std.specs.List.{AllZip}
use Rattle.staat_motion.specs.Shadows.{IsBounds}
use Rattle.staat_motion.proofs.bounds.boxes_of.Given as goal

abbrev pub invariant-loop-piece : goal.invariant-loop-piece
invariant-loop-piece l = AllZip IsBounds (take l.piece-index l.pieces) l.boxes.items
