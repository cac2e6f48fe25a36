use Rattle.staat_linear.proofs.Locked.{locked_lemma}
use Rattle.staat_linear.proofs.laws.locked_within.Goals as goal

pub returns : goal.returns
returns c parts a w leaves last locked within good = locked_lemma parts a w leaves last locked within good.order good.free
