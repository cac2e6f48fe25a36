use Rattle.std.proofs.Common.{arith}
use borrow.Author.Tests.{leb-true}
use Rattle.staat_plan.proofs.ring_step.is_before.Goals as goal

pub returns-in-Some-clause-yes : goal.returns-in-Some-clause-yes
returns-in-Some-clause-yes c told =
    let le = leb-true c.pair_key.result c.pair_key-in-Some.result told in
    (c.in-Some.h, c.in-Some.is, omega (arith, le, c.pair_key.ensures, c.pair_key-in-Some.ensures))
