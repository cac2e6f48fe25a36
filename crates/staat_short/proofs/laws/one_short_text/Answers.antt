use Rattle.staat_short.proofs.ShortReadings.{one_certificate}
use Rattle.staat_short.proofs.laws.one_short_text.Goals as goal

pub returns-clause-certificate : goal.returns-clause-certificate
returns-clause-certificate c = one_certificate
