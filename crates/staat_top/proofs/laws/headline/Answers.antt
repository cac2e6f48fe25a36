use Rattle.staat_top.proofs.HeadlineLemmas.{headline}
use Rattle.staat_top.proofs.laws.headline.Goals as goal

pub returns : goal.returns
returns c = headline
