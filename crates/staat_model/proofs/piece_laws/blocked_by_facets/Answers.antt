use Rattle.staat_model.proofs.PieceFacets.{meets_by_facets_lemma}
use Rattle.staat_model.proofs.piece_laws.blocked_by_facets.Goals as goal

pub returns : goal.returns
returns c = meets_by_facets_lemma
