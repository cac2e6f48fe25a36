use Rattle.staat_model.proofs.WholeLemmas.{moves_whole_lemma}
use Rattle.staat_model.proofs.core_laws.stuck_moves_whole.Goals as goal

pub returns : goal.returns
returns c = moves_whole_lemma
