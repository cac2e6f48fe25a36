use Rattle.std.proofs.Common.{take}
use Rattle.staat_motion.specs.Shadows.{ArePartBounds}
use Rattle.staat_motion.proofs.bounds.part_boxes.Given as goal

abbrev pub invariant-loop-part : goal.invariant-loop-part
invariant-loop-part l = ArePartBounds (take l.part-index l.parts) l.all.items
