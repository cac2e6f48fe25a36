use Rattle.staat_model.proofs.RestrictLemmas.{restrict_lemma}
use Rattle.staat_model.proofs.plan_laws.restrict.Goals as goal

pub returns : goal.returns
returns c = λ parts a w stuck within plan. restrict_lemma parts a stuck plan w within
