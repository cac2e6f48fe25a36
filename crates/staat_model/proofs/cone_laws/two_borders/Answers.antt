use Rattle.staat_model.proofs.BorderLemmas.{borders_lemma}
use Rattle.staat_model.proofs.cone_laws.two_borders.Goals as goal

pub returns : goal.returns
returns c = borders_lemma
