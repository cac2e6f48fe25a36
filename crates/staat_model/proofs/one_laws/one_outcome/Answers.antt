use Rattle.staat_model.proofs.OneOutcome.{IsOutcome-unique}
use Rattle.staat_model.proofs.one_laws.one_outcome.Goals as goal

pub returns : goal.returns
returns c = λ robust parts w f g a b. IsOutcome-unique robust parts a b
