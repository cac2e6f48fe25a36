use Rattle.staat_model.proofs.OneCertificate.{IsCertificateOf-unique}
use Rattle.staat_model.proofs.one_laws.one_certificate.Goals as goal

pub returns : goal.returns
returns c = IsCertificateOf-unique
