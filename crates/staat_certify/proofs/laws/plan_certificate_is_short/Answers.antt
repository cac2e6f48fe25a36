use Rattle.staat_certify.proofs.CertificateSizes.{plan_text_short}
use Rattle.staat_certify.proofs.laws.plan_certificate_is_short.Goals as goal

pub returns : goal.returns
returns c parts version plan marks certificate is versions good sized of =
    plan_text_short parts is version versions plan good sized marks certificate of
