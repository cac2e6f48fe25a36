use Rattle.staat_model.specs.Plans.{plan_of}
use Rattle.staat_text.specs.PlanTexts.{steps_of}
use Rattle.staat_text.proofs.plans.+push_leaves.Given as goal

abbrev pub decreases-push_leaves : goal.decreases-push_leaves
decreases-push_leaves l = steps_of (plan_of l.tree.now)
