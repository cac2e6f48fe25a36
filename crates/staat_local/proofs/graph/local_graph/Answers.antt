use Rattle.staat_local.proofs.Holding.{arcs_hold_back, shows_starts}
use Rattle.staat_local.proofs.graph.local_graph.Goals as goal

pub returns-clause-arcs : goal.returns-clause-arcs
returns-clause-arcs c = arcs_hold_back c.args.sound.now c.args.table.now c.touching-marks.result c.requires.made c.touching-marks.ensures c.args.d c.graph_of.result.rows c.graph_of.ensures

pub returns-clause-shows : goal.returns-clause-shows
returns-clause-shows c = shows_starts c.args.sound.now c.args.table.now c.touching-marks.result c.requires.made c.touching-marks.ensures c.args.d c.graph_of.result.rows c.graph_of.ensures c.args.table.now.of (λ q h. h)
