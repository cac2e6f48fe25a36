use Rattle.std.proofs.Common.{subst}
use Rattle.staat_motion.specs.Motions.{IsMotion, Motion}
use Rattle.staat_motion.proofs.along.Along.direction.Goals as goal

pub returns-clause-rules : goal.returns-clause-rules
returns-clause-rules c = subst (λ (m : Motion). IsMotion m.d m.frame) c.self.view_is c.self.invariant
