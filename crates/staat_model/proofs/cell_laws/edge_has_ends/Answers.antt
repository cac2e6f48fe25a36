use Rattle.staat_model.proofs.PointLemmas.{edge_has_sum_lemma}
use Rattle.staat_model.proofs.cell_laws.edge_has_ends.Goals as goal

pub returns : goal.returns
returns c = edge_has_sum_lemma
