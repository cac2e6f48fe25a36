use Rattle.staat_model.proofs.PlanLemmas.{plan_is_right_lemma}
use Rattle.staat_model.proofs.plan_laws.plan_is_right.Goals as goal

pub returns : goal.returns
returns c = plan_is_right_lemma
