use Rattle.staat_model.proofs.GraphLemmas.{cell_blocks_lemma}
use Rattle.staat_model.proofs.plan_laws.graph_of_cell.Goals as goal

pub returns : goal.returns
returns c = cell_blocks_lemma
