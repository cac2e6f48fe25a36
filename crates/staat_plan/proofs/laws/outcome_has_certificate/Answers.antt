use Rattle.staat_plan.proofs.OutcomeSizes.{outcome_certified}
use Rattle.staat_plan.proofs.laws.outcome_has_certificate.Goals as goal

pub returns : goal.returns
returns c robust parts version plan marks is versions outcome =
    outcome_certified parts is robust version plan marks versions outcome
