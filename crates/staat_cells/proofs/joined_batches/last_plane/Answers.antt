use Rattle.std.proofs.Common.{[], arith, get_or}
use Rattle.std.proofs.lemmas.List.{get_or_default}
use Rattle.staat_cells.specs.declared.joined_batches.JoinedTest.{JoinedTest}
use Rattle.staat_vec.proofs.ListLaws.{All-taken}
use Rattle.staat_cells.specs.Batches.{HasPlanesUpTo}
use Rattle.staat_cells.proofs.GraphRows.{more_planes}
use Rattle.staat_cells.proofs.joined_batches.last_plane.Goals as goal

pub loop-test-preserved : goal.loop-test-preserved
loop-test-preserved c =
    let tests = c.args.tests.now in
    let k = c.loop-test.test-index in
    let none : JoinedTest = record { first = 0; second = 0; third = 0; outside = [] } in
    let x : JoinedTest = get_or tests k none in
    more_planes tests k c.loop-test.last c.greater-last.result x c.loop-test-test.true
    (get_or_default tests k none x c.loop-test-test.true) c.loop-test.invariant (omega arith)
    (record { first = omega arith; second = omega arith; third = omega arith })

pub returns : goal.returns
returns c = All-taken (HasPlanesUpTo c.loop-test.last) c.args.tests.now c.loop-test.test-index c.loop-test-test.false
    c.loop-test.invariant
