use Rattle.staat_text.proofs.SameArcs.{same_graph_text}
use Rattle.staat_text.proofs.laws.same_graph_text.Goals as goal

pub returns : goal.returns
returns c = same_graph_text
