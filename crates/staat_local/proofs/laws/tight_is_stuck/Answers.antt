use Rattle.staat_local.proofs.Holding.{tight_is_stuck_lemma}
use Rattle.staat_local.proofs.laws.tight_is_stuck.Goals as goal

pub returns : goal.returns
returns c = tight_is_stuck_lemma
