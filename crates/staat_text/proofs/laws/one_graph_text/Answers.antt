use Rattle.staat_text.proofs.OneGraphText.{one_text}
use Rattle.staat_text.proofs.laws.one_graph_text.Goals as goal

pub returns : goal.returns
returns c = one_text
