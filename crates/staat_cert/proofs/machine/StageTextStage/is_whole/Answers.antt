use Rattle.std.proofs.Common.{ap}
use Rattle.staat_cert.specs.Views.{state_of}
use Rattle.staat_cert.proofs.Formats.{whole_there}
use Rattle.staat_cert.proofs.Standing.{format, none_there}
use Rattle.staat_cert.proofs.machine.StageTextStage.is_whole.Goals as goal

pub returns-in-Ended : goal.returns-in-Ended
returns-in-Ended c = λ text h. (_, whole_there format _ _ text (ap state_of c.in-Ended.is) h)

pub returns-in_default : goal.returns-in_default
returns-in_default c = none_there c.args.self.now c.in_default.not-Ended
