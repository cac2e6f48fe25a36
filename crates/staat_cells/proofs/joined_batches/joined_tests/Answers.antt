use Rattle.std.proofs.Common.{arith}
use Rattle.staat_cells.proofs.GraphRows.{three_all, three_more}
use Rattle.staat_cells.proofs.joined_batches.joined_tests.Goals as goal

pub loop-i-preserved : goal.loop-i-preserved
loop-i-preserved c =
    three_more c.args.tests.now c.loop-i.i c.loop-i.found.items c.push.new.self.items c.joined.result c.test_at.result
    c.test_at-in-loop-i.result c.test_at-in-loop-i-2.result c.in_ok-push.ensures.items c.test_at.ensures
    c.test_at-in-loop-i.ensures c.test_at-in-loop-i-2.ensures c.joined.ensures c.loop-i.invariant

pub returns : goal.returns
returns c = three_all c.args.tests.now c.loop-i.i c.loop-i.found.items (omega arith) c.loop-i.invariant
