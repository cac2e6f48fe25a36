use Rattle.std.proofs.Common.{length}
use Rattle.staat_model.specs.Sets.{below}
use Rattle.staat_certify.proofs.SomeCertificate.{some_plan_certificate}
use Rattle.staat_certify.proofs.laws.plan_has_certificate.Goals as goal

pub returns : goal.returns
returns c parts version plan marks is good =
    some_plan_certificate parts is version plan marks (below (length parts)) good
