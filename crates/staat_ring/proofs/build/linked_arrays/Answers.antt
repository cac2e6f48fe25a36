use Rattle.std.proofs.Common.{subst, ◌≡◌, arith}
use Rattle.staat_ring.specs.RingViews.{numbers_below}
use Rattle.staat_ring.proofs.Built.{below_all, can_link, none_below, one_more}
use Rattle.staat_ring.specs.Linking.{AreLinkedBelow}
use Rattle.staat_ring.proofs.build.linked_arrays.Goals as goal

pub link_circle-requires-clause-stops : goal.link_circle-requires-clause-stops
link_circle-requires-clause-stops c =
    let n = c.len-planes.result in
    let is = c.len-planes.ensures.is in
    can_link c.args.table.now.planes c.len-planes.ensures.rules.planes n is c.loop-c.c c.in_ok-stops.stops (c.in_ok-stops.ensures (numbers_below n) (λ j lt. below_all n j (omega (arith, lt, is))))

pub loop-c-preserved : goal.loop-c-preserved
loop-c-preserved c =
    let n = c.len-planes.result in
    let is = c.len-planes.ensures.is in
    let new = c.link_circle.ensures in
    record {
      below = one_more c.args.table.now.planes c.len-planes.ensures.rules.planes n is c.loop-c.c c.loop-c-test.true c.in_ok-stops.stops (c.in_ok-stops.ensures (numbers_below n) (λ j lt. below_all n j (omega (arith, lt, is))))
          c.loop-c.arrays c.link_circle.new.self c.loop-c.invariant.below new.sizes new.holds new.others new.home;
    }

pub loop-c-init : goal.loop-c-init
loop-c-init c =
    let new = c.in_ok-arrays.ensures in
    record { below = none_below c.args.table.now.planes c.len-planes.result c.in_ok-arrays.arrays new.sizes new.alone new.home }

pub returns : goal.returns
returns c =
    let planes = c.args.table.now.planes in
    let n = c.len-planes.result in
    let all : c.loop-c.c ≡ n = omega (arith, c.loop-c-test.false, c.loop-c.auto.c-end) in
    subst (λ m. AreLinkedBelow planes m m c.loop-c.arrays) c.len-planes.ensures.is (subst (λ d. AreLinkedBelow planes n d c.loop-c.arrays) all c.loop-c.invariant.below)

pub link_circle-requires-clause-alone : goal.link_circle-requires-clause-alone
link_circle-requires-clause-alone c = λ x lt e. c.loop-c.invariant.below.alone x lt (λ less. omega (arith, less, e))
