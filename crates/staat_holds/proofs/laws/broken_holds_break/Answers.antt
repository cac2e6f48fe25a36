use Rattle.staat_holds.proofs.Breaking.{broken_breaks}
use Rattle.staat_holds.proofs.laws.broken_holds_break.Goals as goal

pub returns : goal.returns
returns c = λ parts holds broken first keep. broken_breaks parts holds broken first keep
