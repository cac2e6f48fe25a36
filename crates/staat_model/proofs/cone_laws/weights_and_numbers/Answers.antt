use Rattle.staat_model.proofs.WeightLemmas.{meets_from_reached, reached_from_meets}
use Rattle.staat_model.proofs.cone_laws.weights_and_numbers.Goals as goal

pub returns : goal.returns
returns c ps qs d some_p some_q = (reached_from_meets ps qs d, meets_from_reached ps qs d some_p some_q)
