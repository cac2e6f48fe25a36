use Rattle.staat_model.proofs.ShadowLemmas.{wall_parts_lemma}
use Rattle.staat_model.proofs.piece_laws.wall_parts.Goals as goal

pub returns : goal.returns
returns c = wall_parts_lemma
