use Rattle.staat_model.proofs.PointLemmas.{representative_lemma}
use Rattle.staat_model.proofs.cell_laws.representative_in_cell.Goals as goal

pub returns : goal.returns
returns c = representative_lemma
