use Rattle.staat_model.proofs.RefusalLemmas.{refusal_is_right_lemma}
use Rattle.staat_model.proofs.plan_laws.refusal_is_right.Goals as goal

pub returns : goal.returns
returns c = refusal_is_right_lemma
