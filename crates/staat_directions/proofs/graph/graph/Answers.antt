use Rattle.staat_input.specs.declared.limits.TheConstants.Limits.{ASSEMBLY}
use Rattle.staat_input.proofs.AnswerLemmas.{input_stops, parts_out}
use Rattle.staat_directions.specs.Graphing.{IsCountedGraph}
use Rattle.staat_directions.proofs.graph.graph.Goals as goal

pub returns-in_err-sound : goal.returns-in_err-sound
returns-in_err-sound g c =
    input_stops ASSEMBLY c.args.request.now.asked c.from_residual.result (λ files. IsCountedGraph c.args.request.now.along) c.in_err-sound.field-0.0
    c.in_err-sound.ensures c.from_residual.ensures.1

pub returns : goal.returns
returns g c =
    parts_out ASSEMBLY c.args.request.now.asked c.counted.result (IsCountedGraph c.args.request.now.along) c.in_ok-sound.sound c.in_ok-sound.ensures c.counted.ensures
