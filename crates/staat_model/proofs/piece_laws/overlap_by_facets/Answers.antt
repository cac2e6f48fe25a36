use Rattle.staat_model.proofs.PieceFacets.{overlap_by_facets_lemma}
use Rattle.staat_model.proofs.piece_laws.overlap_by_facets.Goals as goal

pub returns : goal.returns
returns c = overlap_by_facets_lemma
