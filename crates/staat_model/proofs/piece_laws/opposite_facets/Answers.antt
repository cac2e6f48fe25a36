use Rattle.staat_model.proofs.Reversed.{opposite_facets_lemma}
use Rattle.staat_model.proofs.piece_laws.opposite_facets.Goals as goal

pub returns : goal.returns
returns c = opposite_facets_lemma
