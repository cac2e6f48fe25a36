use Rattle.staat_cert.proofs.AnswerLemmas.{one_read_answer}
use Rattle.staat_cert.proofs.laws.one_read_answer.Goals as goal

pub returns : goal.returns
returns c = one_read_answer
