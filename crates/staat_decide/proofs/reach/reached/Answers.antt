use Rattle.std.proofs.Common.{arith, Bool, List, subst}
use Rattle.staat_decide.specs.Reaching.{IsNextPlace}
use Rattle.staat_decide.proofs.MarkedPlaces.{all_marked, reached_more, unmarked_set}
use Rattle.staat_decide.proofs.reach.reached.Goals as goal

pub loop-preserved : goal.loop-preserved
loop-preserved c =
    let xs = c.loop.marks.items in
    let j = c.in-Some.j in
    let old = c.loop.invariant in
    let n = subst (λ (ms : List Bool). IsNextPlace c.args.way c.args.rows.now ms j) c.as_slice.ensures.value c.in-Some.ensures.some in
    rw c.mark.ensures (record {
      reached = reached_more c.args.way c.args.rows.now xs j old.reached n;
      left = omega (arith, unmarked_set xs j n.before n.fresh, old.left);
      start = omega (arith, old.reached.count, n.before);
    })

pub returns-clause-closed : goal.returns-clause-closed
returns-clause-closed c i i_lt m j j_lt l = all_marked c.loop.marks.items (omega (arith, c.loop.invariant.left, c.loop-test.false)) j j_lt
