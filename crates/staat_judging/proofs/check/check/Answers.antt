use Rattle.staat_input.specs.Causes.{over}
use Rattle.staat_input.specs.declared.limits.TheConstants.Limits.{ASSEMBLY}
use Rattle.staat_judging.specs.Causes.{HasCheckCause}
use Rattle.staat_judging.specs.Checking.{IsCertificateIn, IsChecked}
use Rattle.staat_judging.proofs.CheckCauses.{certificate_cause, input_cause}
use Rattle.staat_judging.proofs.Judgments.{certificate_judged, certificate_refused, input_refused}
use Rattle.staat_judging.proofs.check.check.Goals as goal

pub returns-in_err-sound : goal.returns-in_err-sound
returns-in_err-sound g c =
    let request = c.args.request.now in
    let input = c.in_err-sound.ensures in
    let told = over (g.H.Shelf.told c.args.shelf.now) (g.H.Shelf.told c.read_sound.new.shelf) in
    input_refused ASSEMBLY request (λ files. IsCertificateIn files request.certificate) IsChecked (HasCheckCause request)
    c.from_residual.result c.in_err-sound.field-0.0 input
    (input_cause request told c.in_err-sound.field-0.0 input.cause input.named input.found) c.from_residual.ensures.1

pub returns-in_err-certificate : goal.returns-in_err-certificate
returns-in_err-certificate g c =
    let request = c.args.request.now in
    let fault = c.in_err-certificate.field-0.0 in
    let input = c.in_ok-sound.ensures in
    let mid = g.H.Shelf.told c.read_sound.new.shelf in
    certificate_refused ASSEMBLY request (λ files. IsCertificateIn files request.certificate) IsChecked (HasCheckCause request)
    c.from_residual-in_err-certificate.result mid c.in_ok-sound.sound fault input c.in_err-certificate.ensures.takes
    (certificate_cause request (g.H.Shelf.told c.args.shelf.now) mid (g.H.Shelf.told c.read_certificate.new.shelf) fault
    input.count input.holds c.in_err-certificate.ensures.takes.cause) c.from_residual-in_err-certificate.ensures.1

pub returns : goal.returns
returns g c =
    let request = c.args.request.now in
    let now = g.H.Shelf.told c.read_certificate.new.shelf in
    certificate_judged ASSEMBLY request (λ files. IsCertificateIn files request.certificate) IsChecked (HasCheckCause request)
    c.judged.result (g.H.Shelf.told c.read_sound.new.shelf) c.in_ok-sound.sound c.in_ok-certificate.certificate
    c.in_ok-sound.ensures c.in_ok-certificate.ensures.takes c.judged.ensures.status c.judged.ensures.checked
    (c.judged.ensures.cause request (over (g.H.Shelf.told c.args.shelf.now) now))
