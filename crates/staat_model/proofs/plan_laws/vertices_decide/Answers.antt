use Rattle.staat_model.proofs.VertexLemmas.{vertices_decide_lemma}
use Rattle.staat_model.proofs.plan_laws.vertices_decide.Goals as goal

pub returns : goal.returns
returns c = vertices_decide_lemma
