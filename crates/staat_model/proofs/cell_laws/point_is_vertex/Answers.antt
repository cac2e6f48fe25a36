use Rattle.staat_model.proofs.PointLemmas.{point_is_vertex_lemma}
use Rattle.staat_model.proofs.cell_laws.point_is_vertex.Goals as goal

pub returns : goal.returns
returns c = point_is_vertex_lemma
