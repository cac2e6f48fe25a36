use Rattle.std.proofs.Common.{◌≤◌, ◌<◌, arith, List, [], ℕ, length, map, subst, sym}
use Rattle.staat_model.specs.declared.tree.Tree.{Tree}
use Rattle.staat_model.specs.Leaving.{AreGoodPlans}
use Rattle.staat_model.specs.Plans.{plan_of}
use Rattle.staat_model.specs.SetLists.{set_of}
use Rattle.staat_decide.specs.Decided.{IsDecision, IsLeaving, IsParting}
use Rattle.staat_decide.proofs.Deciding.{good_count, good_whole, leaf_good}
use Rattle.staat_decide.proofs.Ready.{all_planned, good_step, own_place, set_ready}
use Rattle.staat_decide.proofs.SmallSteps.{HaveSmallDirections, small_step, small_whole}
use Rattle.staat_decide.specs.declared.decision.Decision.TheVariants as decision
use Rattle.staat_decide.proofs.planning.+deciding.Goals as goal

pub decision_of-returns-then-w-eq1 : goal.decision_of-returns-then-w-eq1
decision_of-returns-then-w-eq1 g t c = (leaf_good c.args.scene.now.parts.now c.args.w.now (omega (arith, c.if-w-eq1.true)), tt)

pub decision_of-planned-requires : goal.decision_of-planned-requires
decision_of-planned-requires g t c κs within =
    let parts = c.args.scene.now.parts.now in
    let w = c.args.w.now in
    let leaves : IsLeaving parts w c.in-Leaves.leaving = subst (IsParting parts w) c.in-Leaves.is c.in_ok-held.ensures in
    let q = c.requires in
    (omega (arith, c.decreases), (within, (q.bodies, (q.count, (q.pieces, (q.asked, (q.members, (q.ascending, (q.few, leaves)))))))))

pub planned-loop-s-init : goal.planned-loop-s-init
planned-loop-s-init g t c = record {
  good = subst (λ (trees : List Tree). AreGoodPlans c.args.scene.now.parts.now [] (map plan_of trees)) (sym c.new-trees.ensures.items) tt;
  small = subst (λ (trees : List Tree). HaveSmallDirections (map plan_of trees)) (sym c.new-trees.ensures.items) tt;
}

pub planned-decision_of-requires : goal.planned-decision_of-requires
planned-decision_of-requires g t c κs within =
    let parts = c.args.scene.now.parts.now in
    let leaving = c.args.leaving.now in
    let q = c.requires in
    let s = own_place leaving.sets c.as_slice-sets.result.now c.loop-s.s-index c.s-item.result c.as_slice.result.now c.as_slice-sets.ensures c.loop-s-test.true c.s-item.is c.as_slice.ensures in
    let lt : c.loop-s.s-index < length leaving.sets = subst (λ (xs : List (List ℕ)). c.loop-s.s-index < length xs) c.as_slice-sets.ensures c.loop-s-test.true in
    let r = set_ready parts leaving.d c.args.w.now leaving.sets c.loop-s.s-index c.as_slice.result.now q.leaves.peels q.ascending q.members lt s in
    (omega (arith, r.less, c.decreases), (within, (q.bodies, (q.count, (q.pieces, (q.asked, (r.within, (r.ascending, (r.some, omega (arith, r.less, q.few))))))))))

pub planned-loop-s-preserved : goal.planned-loop-s-preserved
planned-loop-s-preserved g t c =
    let parts = c.args.scene.now.parts.now in
    let leaving = c.args.leaving.now in
    let s = own_place leaving.sets c.as_slice-sets.result.now c.loop-s.s-index c.s-item.result c.as_slice.result.now c.as_slice-sets.ensures c.loop-s-test.true c.s-item.is c.as_slice.ensures in
    let apart : IsDecision parts (set_of c.as_slice.result.now) (decision.Apart c.in-Apart.tree) = subst (IsDecision parts (set_of c.as_slice.result.now)) c.in-Apart.is c.in_ok-stuck.ensures in
    record {
      good = good_step parts leaving.sets c.as_slice-sets.result.now c.loop-s.trees.items c.push.new.self.items c.loop-s.s-index c.as_slice.result.now c.in-Apart.tree
          c.as_slice-sets.ensures c.loop-s-test.true s c.loop-s.invariant.good apart.0 c.in_ok-push-in-Apart.ensures.items;
      small = small_step c.loop-s.trees.items c.push.new.self.items c.in-Apart.tree c.loop-s.invariant.small apart.1 c.in_ok-push-in-Apart.ensures.items;
    }

pub planned-joined-requires : goal.planned-joined-requires
planned-joined-requires g t c =
    let leaving = c.args.leaving.now in
    let are = all_planned c.args.scene.now.parts.now leaving.sets c.as_slice-sets.result.now c.loop-s.trees.items c.loop-s.s-index c.as_slice-sets.ensures c.loop-s-test.false c.loop-s.invariant.good in
    let two : 2 ≤ length leaving.sets = c.requires.leaves.peels.two in
    omega (arith, good_count c.args.scene.now.parts.now leaving.sets c.loop-s.trees.items are, two)

pub planned-returns : goal.planned-returns
planned-returns g t c =
    let leaving = c.args.leaving.now in
    let leaves = c.requires.leaves in
    let are = all_planned c.args.scene.now.parts.now leaving.sets c.as_slice-sets.result.now c.loop-s.trees.items c.loop-s.s-index c.as_slice-sets.ensures c.loop-s-test.false c.loop-s.invariant.good in
    let two : 2 ≤ length leaving.sets = leaves.peels.two in
    let some : 1 ≤ length c.loop-s.trees.items = omega (arith, good_count c.args.scene.now.parts.now leaving.sets c.loop-s.trees.items are, two) in
    let whole = plan_of c.in_ok-whole.whole in (
      good_whole c.args.scene.now.parts.now leaving.d c.args.w.now leaving.sets c.loop-s.trees.items whole leaves.peels are c.in_ok-whole.ensures,
      small_whole leaving.d c.loop-s.trees.items whole some leaves.size c.loop-s.invariant.small c.in_ok-whole.ensures,
    )
