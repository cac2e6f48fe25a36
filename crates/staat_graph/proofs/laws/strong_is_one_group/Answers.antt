use Rattle.staat_graph.proofs.Classes.{one_group_law}
use Rattle.staat_graph.proofs.laws.strong_is_one_group.Goals as goal

pub returns : goal.returns
returns c = one_group_law
