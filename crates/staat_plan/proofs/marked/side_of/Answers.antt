use Rattle.std.proofs.Common.{refl, sym, true≢false}
use Rattle.staat_graph.proofs.Sides.{moved_of_first, serves_of_weak, weak_of_serves}
use Rattle.staat_plan.proofs.marked.side_of.Goals as goal

pub returns-then-is_strong-clause-moves : goal.returns-then-is_strong-clause-moves
returns-then-is_strong-clause-moves c parts d some shows serves =
    weak_of_serves parts d c.args.w c.args.graph.now.rows some shows serves (c.if-is_strong.ensures.0 refl)

pub returns-else-is_strong-clause-moves : goal.returns-else-is_strong-clause-moves
returns-else-is_strong-clause-moves c parts d some shows = (
  serves_of_weak parts d c.args.w c.args.graph.now.rows some shows
      (λ strong. true≢false (sym (c.if-is_strong.ensures.1 strong))),
  moved_of_first parts d c.args.w c.args.graph.now.rows some shows c.sink_of.result c.sink_of.ensures,
)
