use Rattle.staat_model.proofs.Differences.{differences_span_lemma}
use Rattle.staat_model.proofs.cone_laws.differences_span.Goals as goal

pub returns : goal.returns
returns c = differences_span_lemma
