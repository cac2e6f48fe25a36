use Rattle.std.proofs.Common.{◌∙◌, ◌++◌, ◌∷◌, [], ap, length}
use Rattle.staat_holds.specs.Chains.{own_names}
use Rattle.staat_deciding.proofs.CertifiedLemmas.{hold_is_shown}
use Rattle.staat_deciding.proofs.certificate.hold_certificate.Goals as goal

pub returns : goal.returns
returns c =
    let parts = c.args.product.now in
    let names = own_names (length parts) in
    let is = c.requires in
    hold_is_shown parts c.ordered.result c.from_vec.result c.stated.result c.stated.ensures.product
    (c.ordered.ensures.ordered parts names is.nodes_are.ascending is.keeps) (c.ordered.ensures.keeps parts names is.keeps)
    (c.from_vec.ensures ∙ c.in_ok-push.ensures.items ∙ ap (λ l. l ++ c.ordered.result ∷ []) c.new-holds.ensures.items) c.stated.ensures.is
