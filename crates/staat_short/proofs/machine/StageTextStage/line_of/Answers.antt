use Rattle.std.proofs.lemmas.Result.{IfOk-weaker}
use Rattle.staat_cert.proofs.Formats.{none_follows}
use Rattle.staat_short.specs.ShortViews.{front_of}
use Rattle.staat_short.proofs.ShortReadings.{format}
use Rattle.staat_short.proofs.machine.StageTextStage.line_of.Goals as goal

pub returns-clause-none : goal.returns-clause-none
returns-clause-none c = IfOk-weaker c.line_of.result _ _ (none_follows format front_of c.args.bytes.now) c.line_of.ensures.none
