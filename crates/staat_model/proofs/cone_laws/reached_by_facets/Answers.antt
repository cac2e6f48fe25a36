use Rattle.staat_model.proofs.FacetLemmas.{reached_by_facets_lemma}
use Rattle.staat_model.proofs.cone_laws.reached_by_facets.Goals as goal

pub returns : goal.returns
returns c = reached_by_facets_lemma
