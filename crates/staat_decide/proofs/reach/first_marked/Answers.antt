use Rattle.std.proofs.Common.{arith}
use Rattle.staat_decide.proofs.MarkedPlaces.{count_push, marked_front, marked_push, unmarked_push}
use Rattle.staat_decide.proofs.reach.first_marked.Goals as goal

pub loop-preserved : goal.loop-preserved
loop-preserved c =
    let xs = c.loop.marks.items in
    let old = c.loop.invariant in
    rw c.in_ok-push-2.ensures.items (record {
      count = omega (arith, count_push xs, old.count);
      first = marked_front xs 0 old.first;
      others = λ j h. old.others j (marked_push xs j h);
      left = omega (arith, unmarked_push xs, old.left);
    })
