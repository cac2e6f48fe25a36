use Rattle.staat_certify.proofs.WitnessLemmas.{witness_is}
use Rattle.staat_certify.proofs.laws.witness_of_trees.Goals as goal

pub returns : goal.returns
returns c = witness_is
