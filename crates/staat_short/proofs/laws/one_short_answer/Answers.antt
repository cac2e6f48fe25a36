use Rattle.staat_short.proofs.ShortReadings.{one_short_answer}
use Rattle.staat_short.proofs.laws.one_short_answer.Goals as goal

pub returns : goal.returns
returns c = one_short_answer
