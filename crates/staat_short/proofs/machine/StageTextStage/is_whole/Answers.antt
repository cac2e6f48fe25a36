use Rattle.std.proofs.Common.{ap}
use Rattle.staat_short.specs.ShortViews.{front_of}
use Rattle.staat_cert.proofs.Formats.{whole_there}
use Rattle.staat_short.proofs.ShortReadings.{format, none_there}
use Rattle.staat_short.proofs.machine.StageTextStage.is_whole.Goals as goal

pub returns-in-Complete : goal.returns-in-Complete
returns-in-Complete c = λ text h. (_, whole_there format _ _ text (ap front_of c.in-Complete.is) h)

pub returns-in_default : goal.returns-in_default
returns-in_default c = none_there c.args.self.now c.in_default.not-Complete
