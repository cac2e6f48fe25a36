use Rattle.staat_model.proofs.OneReason.{IsVerdict-unique}
use Rattle.staat_model.proofs.one_laws.one_verdict.Goals as goal

pub returns : goal.returns
returns c = IsVerdict-unique
