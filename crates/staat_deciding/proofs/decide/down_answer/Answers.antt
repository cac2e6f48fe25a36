use Rattle.staat_input.proofs.AnswerLemmas.{memory_out}
use Rattle.staat_deciding.specs.Deciding.{IsDecidedDown}
use Rattle.staat_deciding.proofs.decide.down_answer.Goals as goal

pub returns-in_err-text : goal.returns-in_err-text
returns-in_err-text c =
    let out = memory_out {Step = IsDecidedDown c.args.parts.now} c.from_residual.ensures.1 in
    record { status = out.status; decided = out.found; cause = out.cause }
