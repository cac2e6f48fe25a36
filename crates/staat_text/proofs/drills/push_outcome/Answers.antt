use Rattle.staat_text.proofs.PlanSteps.{steps_small}
use Rattle.staat_model.specs.Plans.{plan_of}
use Rattle.staat_text.proofs.drills.push_outcome.Goals as goal

pub steps_of-requires : goal.steps_of-requires
steps_of-requires c = steps_small (plan_of c.in-Plan.tree) (rw c.in-Plan.is at c.requires)
