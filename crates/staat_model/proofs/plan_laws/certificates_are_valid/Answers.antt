use Rattle.staat_model.proofs.StuckSets.{stuck_exists}
use Rattle.staat_model.proofs.ValidCertificates.{plan_certificate_valid, refusal_certificate_valid}
use Rattle.staat_model.proofs.plan_laws.certificates_are_valid.Goals as goal

pub returns-clause-plan : goal.returns-clause-plan
returns-clause-plan c = plan_certificate_valid

pub returns-clause-refusal : goal.returns-clause-refusal
returns-clause-refusal c = λ parts version w certificate is_assembly is_stuck is. refusal_certificate_valid parts version w certificate is_assembly (stuck_exists parts w is_stuck) is
