use Rattle.std.proofs.Common.{arith}
use Rattle.staat_input.specs.Counting.{AreCounted}
use Rattle.staat_input.proofs.AnswerLemmas.{fault_out, then_out}
use Rattle.staat_directions.specs.CellTables.{AreTabled}
use Rattle.staat_directions.proofs.CellsLemmas.{counted_most}
use Rattle.staat_directions.proofs.cells.counted.Goals as goal

pub tabled-requires-clause-few : goal.tabled-requires-clause-few
tabled-requires-clause-few c =
    let most = c.requires.most in
    let few = counted_most c.args.sound.now c.args.planes c.in_ok-table.table.planes c.in_ok-table.ensures.counted in
    omega (arith, most, few)

pub returns-in_err-table : goal.returns-in_err-table
returns-in_err-table c =
    fault_out (AreCounted c.args.sound.now c.args.planes) (λ planes. AreTabled c.args.sound.now) c.from_residual.result
    c.in_err-table.field-0.0 c.in_err-table.ensures.refused c.in_err-table.ensures.cause c.from_residual.ensures.1

pub returns : goal.returns
returns c =
    let out = c.tabled.ensures in
    then_out (AreCounted c.args.sound.now c.args.planes) (λ planes. AreTabled c.args.sound.now) c.tabled.result
    c.in_ok-table.table.planes c.in_ok-table.ensures.counted (record { status = out.status; found = out.tabled; cause = out.cause })
