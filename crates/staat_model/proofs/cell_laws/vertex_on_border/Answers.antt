use Rattle.staat_model.proofs.VertexLemmas.{holds_axes, vertex_on_border_lemma}
use Rattle.staat_model.proofs.cell_laws.vertex_on_border.Goals as goal

pub returns : goal.returns
returns c = λ parts w planes d are. vertex_on_border_lemma planes d (holds_axes parts w planes are)
