use Rattle.staat_input.specs.declared.limits.TheConstants.Limits.{PRODUCT}
use Rattle.staat_input.proofs.AnswerLemmas.{input_stops, parts_out}
use Rattle.staat_directions.specs.Graphing.{IsGraphed}
use Rattle.staat_deciding.proofs.blocks.blocks.Goals as goal

pub returns-in_err-product : goal.returns-in_err-product
returns-in_err-product g c =
    input_stops PRODUCT c.args.request.now.asked c.from_residual.result (λ files. λ parts. IsGraphed parts c.args.request.now.along) c.in_err-product.field-0.0
    c.in_err-product.ensures c.from_residual.ensures.1

pub returns : goal.returns
returns g c =
    parts_out PRODUCT c.args.request.now.asked c.graphed.result (λ parts. IsGraphed parts c.args.request.now.along) c.in_ok-product.product c.in_ok-product.ensures c.graphed.ensures
