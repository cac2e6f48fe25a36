use Rattle.std.proofs.lemmas.Result.{IfOk-weaker}
use Rattle.staat_cert.proofs.bytes.take.Goals as goal

pub returns-in-None : goal.returns-in-None
returns-in-None g c = λ whole. (rw c.in-None.is at c.in_ok-found.ensures.none) whole c.args.stage.now

pub returns-in-Some : goal.returns-in-Some
returns-in-Some g c = IfOk-weaker c.take_line.result _ _ (λ b takes. takes c.args.line.now (rw c.in-Some.is at c.in_ok-found.ensures.found)) c.take_line.ensures
