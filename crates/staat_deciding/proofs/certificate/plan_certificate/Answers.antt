use Rattle.staat_model.specs.Plans.{plan_of}
use Rattle.staat_deciding.proofs.CertifiedLemmas.{plan_is_shown}
use Rattle.staat_deciding.proofs.certificate.plan_certificate.Goals as goal

pub returns : goal.returns
returns c =
    plan_is_shown c.args.product.now (plan_of c.args.tree.now) c.in_ok-nodes.nodes c.stated.result c.stated.ensures.product c.requires.good c.requires.directions c.in_ok-nodes.ensures c.stated.ensures.is
