use Rattle.staat_graph.proofs.Sides.{weak_of_serves, serves_of_weak}
use Rattle.staat_graph.proofs.laws.serves_where_not_strong.Goals as goal

pub returns : goal.returns
returns c parts d w rows moves shows = (weak_of_serves parts d w rows moves shows, serves_of_weak parts d w rows moves shows)
