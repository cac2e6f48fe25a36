use Rattle.staat_model.proofs.ShadowLemmas.{boxes_part_lemma}
use Rattle.staat_model.proofs.piece_laws.boxes_part.Goals as goal

pub returns : goal.returns
returns c = boxes_part_lemma
