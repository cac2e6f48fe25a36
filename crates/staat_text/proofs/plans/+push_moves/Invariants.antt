use Rattle.staat_model.specs.Plans.{plan_of}
use Rattle.staat_text.specs.PlanTexts.{steps_of}
use Rattle.staat_text.proofs.plans.+push_moves.Given as goal

abbrev pub decreases-push_moves : goal.decreases-push_moves
decreases-push_moves l = steps_of (plan_of l.tree.now)
