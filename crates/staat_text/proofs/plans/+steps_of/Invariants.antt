use Rattle.staat_model.specs.Plans.{plan_of}
use Rattle.staat_text.specs.PlanTexts.{steps_of}
use Rattle.staat_text.proofs.plans.+steps_of.Given as goal

abbrev pub decreases-steps_of : goal.decreases-steps_of
decreases-steps_of l = steps_of (plan_of l.tree.now)
