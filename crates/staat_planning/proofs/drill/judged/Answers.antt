use Rattle.std.proofs.Common.{subst, sym}
use Rattle.std.specs.Prelude.{IfOk}
use Rattle.staat_model.specs.declared.certificate.Certificate.{Certificate}
use Rattle.staat_model.specs.Reasons.{IsVerdict}
use Rattle.staat_model.specs.Texts.{IsWellFormed}
use Rattle.staat_planning.proofs.drill.judged.Goals as goal

pub check-requires : goal.check-requires
check-requires c =
    let (written_of, written) = c.requires in
    subst IsWellFormed (sym (c.in_ok-read.ensures written_of written)) written.0.form

pub returns : goal.returns
returns c = λ written_of written.
    subst (λ (x : Certificate). IfOk c.check.result (IsVerdict c.args.sound.now x)) (c.in_ok-read.ensures written_of written) c.check.ensures.verdict
