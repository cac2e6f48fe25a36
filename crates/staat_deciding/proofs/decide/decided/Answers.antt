use Rattle.std.proofs.Common.{◌∙◌, Bool, List, false, subst, sym}
use Rattle.staat_input.proofs.AnswerLemmas.{memory_out}
use Rattle.staat_model.specs.declared.assembly.Part.{Part}
use Rattle.staat_input.specs.Taking.{IsWorkedOut}
use Rattle.staat_input.specs.Work.{Follows}
use Rattle.staat_deciding.specs.Deciding.{IsDecided, IsDecidedAs}
use Rattle.staat_deciding.proofs.decide.decided.Goals as goal

pub returns-in_err-decision : goal.returns-in_err-decision
returns-in_err-decision c = memory_out c.from_residual.ensures.1

pub returns-then-certificate : goal.returns-then-certificate
returns-then-certificate c =
    subst (λ (b : Bool). IsWorkedOut (IsDecidedAs false b c.args.product.now) c.certificate_answer.result)
    (sym c.if-certificate.true) c.certificate_answer.ensures

pub returns-else-certificate : goal.returns-else-certificate
returns-else-certificate c =
    let out = c.answer_of.ensures in
    let same = c.as_slice-parts.ensures.parts ∙ c.product.ensures.product in
    subst (λ (b : Bool). IsWorkedOut (IsDecidedAs false b c.args.product.now) c.answer_of.result) (sym c.if-certificate.false) (record {
      status = out.status;
      found = subst (λ (ps : List Part). Follows (IsDecided ps) c.answer_of.result) same out.decided;
      cause = out.cause;
    })
