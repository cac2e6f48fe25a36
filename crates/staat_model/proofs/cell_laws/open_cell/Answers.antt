use Rattle.staat_model.proofs.CellLemmas.{open_cell_lemma}
use Rattle.staat_model.proofs.cell_laws.open_cell.Goals as goal

pub returns : goal.returns
returns c = open_cell_lemma
