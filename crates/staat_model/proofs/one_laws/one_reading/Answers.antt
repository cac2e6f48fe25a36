use Rattle.staat_model.proofs.OneReading.{IsReading-unique}
use Rattle.staat_model.proofs.one_laws.one_reading.Goals as goal

pub returns : goal.returns
returns c = IsReading-unique
