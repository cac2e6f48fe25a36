use Rattle.std.proofs.Common.{arith}
use Rattle.staat_decide.proofs.Held.{held_none}
use Rattle.staat_decide.proofs.peeling.take_apart.Goals as goal

pub returns-then-is_empty-clause-none : goal.returns-then-is_empty-clause-none
returns-then-is_empty-clause-none c parts d is = held_none parts d c.args.w.now (grind arith)

pub returns : goal.returns
returns c = record { some = c.decided.ensures.some; none = c.decided.ensures.none }
