use Rattle.std.proofs.Common.{◌≡◌, Ok, List, ℕ, ap, arith}
use Rattle.staat_text.specs.Parts.{look_text}
use Rattle.staat_input.specs.Work.{answer}
use Rattle.staat_input.specs.declared.limits.TheConstants.Limits.{ASSEMBLY}
use Rattle.staat_input.proofs.AnswerLemmas.{input_stops, memory_out, parts_out}
use Rattle.staat_directions.proofs.look.look.Goals as goal

pub returns-in_err-sound : goal.returns-in_err-sound
returns-in_err-sound g c =
    input_stops ASSEMBLY c.args.asked.now c.from_residual.result (λ files parts found. found ≡ Ok (answer 0 (look_text parts)))
    c.in_err-sound.field-0.0 c.in_err-sound.ensures c.from_residual.ensures.1

pub returns-in_err-text : goal.returns-in_err-text
returns-in_err-text g c =
    let found = c.from_residual-in_err-text.result in
    let sound = c.in_ok-sound.sound in
    parts_out ASSEMBLY c.args.asked.now found (λ parts found. found ≡ Ok (answer 0 (look_text parts))) sound c.in_ok-sound.ensures
    (memory_out c.from_residual-in_err-text.ensures.1)

pub returns : goal.returns
returns g c =
    let sound = c.in_ok-sound.sound in
    parts_out ASSEMBLY c.args.asked.now (Ok (answer 0 c.in_ok-text.text)) (λ parts found. found ≡ Ok (answer 0 (look_text parts)))
    sound c.in_ok-sound.ensures (record {
      status = omega arith;
      found = ap (λ (text : List ℕ). Ok (answer 0 text)) c.in_ok-text.ensures;
      cause = λ shelf. tt;
    })
