use Rattle.std.proofs.Common.{sym}
use Rattle.staat_motion.proofs.Kept.{wholes_count}
use Rattle.staat_motion.proofs.laws.parts_have_shadows.Goals as goal

pub returns : goal.returns
returns c parts along made = sym (wholes_count parts along made)
