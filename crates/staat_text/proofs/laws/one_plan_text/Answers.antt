use Rattle.staat_text.proofs.PlanSteps.{one_text}
use Rattle.staat_text.proofs.laws.one_plan_text.Goals as goal

pub returns : goal.returns
returns c = one_text
