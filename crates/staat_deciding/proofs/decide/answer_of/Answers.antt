use Rattle.staat_input.proofs.AnswerLemmas.{memory_out}
use Rattle.staat_deciding.specs.Deciding.{IsDecided}
use Rattle.staat_deciding.proofs.decide.answer_of.Goals as goal

pub returns-in_err-text-in-Apart : goal.returns-in_err-text-in-Apart
returns-in_err-text-in-Apart c =
    let out = memory_out {Step = IsDecided c.args.parts.now} c.from_residual.ensures.1 in
    record { status = out.status; decided = out.found; cause = out.cause }

pub returns-in_err-text-in-Held : goal.returns-in_err-text-in-Held
returns-in_err-text-in-Held c =
    let out = memory_out {Step = IsDecided c.args.parts.now} c.from_residual-in_err-text-in-Held.ensures.1 in
    record { status = out.status; decided = out.found; cause = out.cause }
