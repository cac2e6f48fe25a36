use Rattle.staat_graph.proofs.Sides.{shut_of_free, free_of_shut}
use Rattle.staat_graph.proofs.laws.free_is_shut.Goals as goal

pub returns : goal.returns
returns c parts d w s rows moves shows within = (shut_of_free parts d w rows moves shows s within, free_of_shut parts d w rows moves shows s within)
