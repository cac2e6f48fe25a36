use Rattle.staat_certify.proofs.SomeRefusal.{some_refusal_certificate}
use Rattle.staat_certify.proofs.laws.refusal_has_certificate.Goals as goal

pub returns : goal.returns
returns c parts version w is held = some_refusal_certificate parts version w is held
