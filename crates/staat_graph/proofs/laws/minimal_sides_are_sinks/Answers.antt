use Rattle.staat_graph.proofs.Sides.{sink_of_minimal, minimal_of_sink}
use Rattle.staat_graph.proofs.laws.minimal_sides_are_sinks.Goals as goal

pub returns : goal.returns
returns c parts d w s rows moves shows = (sink_of_minimal parts d w rows moves shows s, minimal_of_sink parts d w rows moves shows s)
