use Rattle.std.proofs.Common.{refl, sym, true≢false}
use Rattle.staat_local.proofs.Beginning.{loosens_not, moves_along}
use Rattle.staat_local.proofs.step.ContactsTrial.ask.Goals as goal

pub returns-then-is_strong-clause-tried : goal.returns-then-is_strong-clause-tried
returns-then-is_strong-clause-tried c parts made are =
    loosens_not parts c.args.table.now c.args.self.now.marks.now made are c.args.w c.requires.within c.args.d c.requires.some c.graph_of-graph.result.rows c.graph_of-graph.ensures (c.if-is_strong.ensures.0 refl)

pub returns-else-is_strong-clause-tried : goal.returns-else-is_strong-clause-tried
returns-else-is_strong-clause-tried c parts made are =
    moves_along parts c.args.table.now c.args.self.now.marks.now made are c.args.w c.requires.within c.args.d c.requires.some c.graph_of-graph.result.rows c.graph_of-graph.ensures c.sink_of.result
    (λ strong. true≢false (sym (c.if-is_strong.ensures.1 strong))) c.sink_of.ensures
