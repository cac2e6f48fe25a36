use Rattle.std.proofs.Common.{arith, get_or}
use Rattle.staat_graph.proofs.Arcs.{small_bit}
use Rattle.staat_graph.proofs.graph.Graph.arcs_from.Goals as goal

pub returns-clause-small : goal.returns-clause-small
returns-clause-small c q h = small_bit (get_or c.args.self.now.rows c.args.a 0) q (omega arith) h
