use Rattle.staat_model.proofs.VertexLemmas.{stuck_at_vertices_lemma}
use Rattle.staat_model.proofs.plan_laws.stuck_at_vertices.Goals as goal

pub returns : goal.returns
returns c = stuck_at_vertices_lemma
