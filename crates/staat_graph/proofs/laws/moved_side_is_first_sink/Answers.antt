use Rattle.staat_graph.proofs.Sides.{first_of_moved, moved_of_first}
use Rattle.staat_graph.proofs.laws.moved_side_is_first_sink.Goals as goal

pub returns : goal.returns
returns c parts d w s rows moves shows = (first_of_moved parts d w rows moves shows s, moved_of_first parts d w rows moves shows s)
