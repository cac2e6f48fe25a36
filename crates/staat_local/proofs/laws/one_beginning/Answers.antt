use Rattle.staat_local.proofs.Beginning.{one_found_lemma}
use Rattle.staat_local.proofs.laws.one_beginning.Goals as goal

pub returns : goal.returns
returns c = one_found_lemma
