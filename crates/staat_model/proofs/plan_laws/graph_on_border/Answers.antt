use Rattle.staat_model.proofs.GraphLemmas.{border_blocks_lemma}
use Rattle.staat_model.proofs.plan_laws.graph_on_border.Goals as goal

pub returns : goal.returns
returns c = border_blocks_lemma
