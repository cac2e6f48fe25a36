use Rattle.std.proofs.Common.{◌≡◌, ◌≤◌, ◌∙◌, arith, ap, sym, subst, List}
use Rattle.std.specs.FinSet as set
use Rattle.staat_model.specs.declared.set.PartSet.{PartSet}
use Rattle.staat_model.proofs.SetSizes.{one_is, one_within}
use Rattle.staat_linear.specs.declared.order.Leave.{Leave}
use Rattle.staat_linear.specs.declared.order.Order.TheVariants.{Whole}
use Rattle.staat_linear.specs.Orders.{IsChosen, all_but}
use Rattle.staat_linear.proofs.Choosing.{ComesDown, down_to_last, down_to_locked, fewer, inside, one_more}
use Rattle.staat_linear.proofs.Others.{some_other}
use Rattle.staat_linear.proofs.chosen.order_of.Goals as goal

pub returns-in_default : goal.returns-in_default
returns-in_default c parts made =
    let two : 2 ≤ set.len c.loop-leave.left = omega (arith, c.loop-leave-test.true, c.count.ensures.is) in
    down_to_locked parts c.args.w c.loop-leave.leaves.items c.loop-leave.left (c.loop-leave.invariant.down parts made) two (c.in_default.ensures.step parts made)

pub single-requires : goal.single-requires
single-requires c = c.bits-bits.ensures.small c.in-Some.leave.part c.in-Some.ensures.member

pub loop-leave-smaller : goal.loop-leave-smaller
loop-leave-smaller c = fewer c.loop-leave.left c.without-left.result c.in-Some.leave.part c.in-Some.ensures.member
    (c.without-left.ensures.is ∙ ap (λ s. set.difference c.loop-leave.left s) c.single.ensures.is)

pub loop-leave-preserved : goal.loop-leave-preserved
loop-leave-preserved c =
    let two : 2 ≤ set.len c.loop-leave.left = omega (arith, c.loop-leave-test.true, c.count.ensures.is) in
    let same : c.without-left.result ≡ all_but c.loop-leave.left c.in-Some.leave.part = c.without-left.ensures.is ∙ ap (λ s. set.difference c.loop-leave.left s) c.single.ensures.is in
    record {
      some = some_other c.loop-leave.left c.without-left.result c.in-Some.leave.part c.in-Some.ensures.member two same;
      within = inside c.loop-leave.left c.without-left.result c.args.table.now.of c.in-Some.leave.part c.loop-leave.invariant.within same;
      down = λ parts made.
          subst (λ (u : PartSet). ComesDown parts c.args.w c.push.new.self.items u) (sym same)
          (subst (λ (ls : List Leave). ComesDown parts c.args.w ls (all_but c.loop-leave.left c.in-Some.leave.part)) (sym c.in_ok-push.ensures.items)
          (one_more parts c.args.w c.loop-leave.leaves.items c.loop-leave.left c.in-Some.leave (c.loop-leave.invariant.down parts made) two (c.in-Some.ensures.step parts made)));
    }

pub returns : goal.returns
returns c parts made =
    let one : set.len c.loop-leave.left ≤ 1 = omega (arith, c.loop-leave-test.false, c.count.ensures.is) in
    subst (λ (ls : List Leave). IsChosen parts c.args.w (Whole ls c.least.result)) (sym c.from_vec.ensures)
    (down_to_last parts c.args.w c.loop-leave.leaves.items c.loop-leave.left c.least.result (c.loop-leave.invariant.down parts made) (one_is c.loop-leave.left c.least.result c.least.ensures.least.has (one_within c.loop-leave.left c.least.result c.least.ensures.least.has one)))
