use Rattle.staat_model.proofs.ShadowLemmas.{shadows_part_lemma}
use Rattle.staat_model.proofs.piece_laws.shadows_part.Goals as goal

pub returns : goal.returns
returns c = shadows_part_lemma
