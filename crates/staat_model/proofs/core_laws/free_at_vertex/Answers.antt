use Rattle.staat_model.proofs.CoreLemmas.{free_at_vertex_lemma}
use Rattle.staat_model.proofs.core_laws.free_at_vertex.Goals as goal

pub returns : goal.returns
returns c = free_at_vertex_lemma
