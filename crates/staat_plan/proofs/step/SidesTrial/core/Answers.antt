use Rattle.staat_plan.proofs.StepLemmas.{held_serves_not}
use Rattle.staat_plan.proofs.step.SidesTrial.core.Goals as goal

pub returns-clause-held : goal.returns-clause-held
returns-clause-held c parts d made known holds = held_serves_not parts c.of.result c.args.w d c.of.ensures.moving holds
