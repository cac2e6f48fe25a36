use Rattle.std.proofs.Common.{arith}
use Rattle.staat_check.proofs.RefusalRules.{lines_fit}
use Rattle.staat_check.proofs.refusal.lines_of.Goals as goal

pub lines_of_witness-lines-requires : goal.lines_of_witness-lines-requires
lines_of_witness-lines-requires c =
    omega (arith, lines_fit c.args.witnesses.now c.loop-witness.witness-index c.loop-witness.lines c.witness-item.result c.loop-witness-test.true c.witness-item.is c.loop-witness.invariant, c.requires)

pub overflow_add-lines : goal.overflow_add-lines
overflow_add-lines c =
    omega (arith, c.lines_of_witness-lines.ensures, lines_fit c.args.witnesses.now c.loop-witness.witness-index c.loop-witness.lines c.witness-item.result c.loop-witness-test.true c.witness-item.is c.loop-witness.invariant, c.requires)
