use Rattle.staat_model.proofs.OneReason.{body_unique}
use Rattle.staat_model.proofs.one_laws.one_reason.Goals as goal

pub returns : goal.returns
returns c = λ parts k. body_unique parts k.version k.parts k.body
