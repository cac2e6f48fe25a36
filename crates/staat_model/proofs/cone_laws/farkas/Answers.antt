use Rattle.staat_model.proofs.FarkasLemmas.{farkas_lemma}
use Rattle.staat_model.proofs.cone_laws.farkas.Goals as goal

pub returns : goal.returns
returns c = farkas_lemma
