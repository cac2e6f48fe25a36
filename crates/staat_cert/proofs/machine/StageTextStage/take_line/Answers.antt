use Rattle.std.proofs.lemmas.Result.{IfOk-weaker}
use Rattle.staat_cert.proofs.Formats.{takes_line}
use Rattle.staat_cert.proofs.Standing.{format}
use Rattle.staat_cert.proofs.machine.StageTextStage.take_line.Goals as goal

pub returns : goal.returns
returns c = IfOk-weaker c.take_line.result _ _ (λ b takes bytes is. takes_line format _ _ bytes c.args.said b is takes) c.take_line.ensures
