use Rattle.staat_model.proofs.CornerLemmas.{corner_lemma}
use Rattle.staat_model.proofs.cone_laws.corner.Goals as goal

pub returns : goal.returns
returns c = corner_lemma
