use Rattle.staat_model.proofs.FacetLemmas.{one_primitive_lemma}
use Rattle.staat_model.proofs.cone_laws.one_primitive.Goals as goal

pub returns : goal.returns
returns c = one_primitive_lemma
