use Rattle.staat_input.specs.Causes.{over}
use Rattle.staat_input.specs.declared.limits.TheConstants.Limits.{PRODUCT}
use Rattle.staat_judging.specs.Causes.{HasConfirmCause}
use Rattle.staat_judging.specs.Confirming.{IsShortCertificateIn, IsConfirmed}
use Rattle.staat_judging.proofs.ConfirmCauses.{certificate_cause, input_cause}
use Rattle.staat_judging.proofs.Judgments.{certificate_judged, certificate_refused, input_refused}
use Rattle.staat_judging.proofs.confirm.confirm.Goals as goal

pub returns-in_err-product : goal.returns-in_err-product
returns-in_err-product g c =
    let request = c.args.request.now in
    let input = c.in_err-product.ensures in
    let told = over (g.H.Shelf.told c.args.shelf.now) (g.H.Shelf.told c.read_product.new.shelf) in
    input_refused PRODUCT request (λ files. IsShortCertificateIn files request.certificate) IsConfirmed (HasConfirmCause request)
    c.from_residual.result c.in_err-product.field-0.0 input
    (input_cause request told c.in_err-product.field-0.0 input.cause input.named input.found) c.from_residual.ensures.1

pub returns-in_err-certificate : goal.returns-in_err-certificate
returns-in_err-certificate g c =
    let request = c.args.request.now in
    let fault = c.in_err-certificate.field-0.0 in
    let input = c.in_ok-product.ensures in
    let mid = g.H.Shelf.told c.read_product.new.shelf in
    certificate_refused PRODUCT request (λ files. IsShortCertificateIn files request.certificate) IsConfirmed (HasConfirmCause request)
    c.from_residual-in_err-certificate.result mid c.in_ok-product.product fault input c.in_err-certificate.ensures.takes
    (certificate_cause request (g.H.Shelf.told c.args.shelf.now) mid (g.H.Shelf.told c.read_short_certificate.new.shelf) fault
    input.count input.holds c.in_err-certificate.ensures.takes.cause) c.from_residual-in_err-certificate.ensures.1

pub returns : goal.returns
returns g c =
    let request = c.args.request.now in
    let now = g.H.Shelf.told c.read_short_certificate.new.shelf in
    certificate_judged PRODUCT request (λ files. IsShortCertificateIn files request.certificate) IsConfirmed (HasConfirmCause request)
    c.judged.result (g.H.Shelf.told c.read_product.new.shelf) c.in_ok-product.product c.in_ok-certificate.certificate
    c.in_ok-product.ensures c.in_ok-certificate.ensures.takes c.judged.ensures.status c.judged.ensures.confirmed
    (c.judged.ensures.cause request (over (g.H.Shelf.told c.args.shelf.now) now))
