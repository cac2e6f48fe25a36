use Rattle.staat_input.specs.declared.limits.TheConstants.Limits.{PRODUCT}
use Rattle.staat_input.proofs.AnswerLemmas.{input_stops, parts_out}
use Rattle.staat_deciding.specs.Deciding.{IsDecidedAs}
use Rattle.staat_deciding.proofs.decide.decide.Goals as goal

pub returns-in_err-product : goal.returns-in_err-product
returns-in_err-product g c =
    let request = c.args.request.now in
    input_stops PRODUCT request.asked c.from_residual.result (λ files. IsDecidedAs request.rest request.certificate)
    c.in_err-product.field-0.0 c.in_err-product.ensures c.from_residual.ensures.1

pub returns : goal.returns
returns g c =
    let request = c.args.request.now in
    parts_out PRODUCT request.asked c.answer_as.result (IsDecidedAs request.rest request.certificate)
    c.in_ok-product.product c.in_ok-product.ensures c.answer_as.ensures
