use Rattle.std.proofs.Common.{Err, subst, sym}
use Rattle.staat_fault.specs.declared.fault.Fault.{Fault}
use Rattle.staat_short.specs.ShortWriting.{IsShortTextAnswer}
use Rattle.staat_input.specs.Work.{Follows}
use Rattle.staat_deciding.specs.Deciding.{IsDecidedShort}
use Rattle.staat_deciding.proofs.CertificateLemmas.{refusal_unwritten}
use Rattle.staat_deciding.proofs.certificate.refusal_answer.Goals as goal

pub returns-in-Err-clause-decided : goal.returns-in-Err-clause-decided
returns-in-Err-clause-decided c = λ rest parts valid kind.
    subst (λ (f : Fault). Follows (IsDecidedShort rest parts) (Err f)) (sym c.text_fault.ensures)
    (refusal_unwritten rest parts c.args.c.now c.in-Err.refusal c.requires valid kind
    (subst (IsShortTextAnswer c.args.c.now) c.in-Err.is c.short_text.ensures))
