use Rattle.std.proofs.Common.{arith}
use Rattle.staat_graph.proofs.RowLemmas.{joined_all}
use Rattle.staat_graph.proofs.rows.join.Goals as goal

pub returns-clause-marks : goal.returns-clause-marks
returns-clause-marks c = λ i.
    joined_all c.args.marks.now c.args.others.now c.loop-j.marks c.loop-j.j c.requires (omega (arith, c.loop-j-test.false))
    c.loop-j.invariant.done c.loop-j.invariant.rest i
