use Rattle.staat_cone.proofs.LawLemmas.{few_facets_lemma}
use Rattle.staat_cone.proofs.laws.few_facets.Goals as goal

pub returns : goal.returns
returns c = few_facets_lemma
