use Rattle.staat_model.proofs.OneReason.{plan_body, refusal_body}
use Rattle.staat_model.proofs.one_laws.no_reason_if_valid.Goals as goal

pub returns-clause-plan : goal.returns-clause-plan
returns-clause-plan c = λ parts k. plan_body parts k.version k.parts k.body

pub returns-clause-refusal : goal.returns-clause-refusal
returns-clause-refusal c = λ parts k. refusal_body parts k.version k.parts k.body
