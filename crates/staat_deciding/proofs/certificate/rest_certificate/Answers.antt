use Rattle.staat_deciding.proofs.CertifiedLemmas.{rest_is_shown}
use Rattle.staat_deciding.proofs.certificate.rest_certificate.Goals as goal

pub returns : goal.returns
returns c =
    rest_is_shown c.args.product.now c.args.tree c.in_ok-nodes.nodes c.stated.result c.stated.ensures.product c.requires.shown c.requires.some c.in_ok-nodes.ensures c.stated.ensures.is
