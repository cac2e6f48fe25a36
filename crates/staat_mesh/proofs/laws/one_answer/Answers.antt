use Rattle.staat_mesh.proofs.OneAnswer.{one_answer_lemma}
use Rattle.staat_mesh.proofs.laws.one_answer.Goals as goal

pub returns : goal.returns
returns c = one_answer_lemma
