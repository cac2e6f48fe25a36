use Rattle.std.proofs.Common.{◌+◌, ◌*◌, length, map, take}
use Rattle.staat_model.specs.Leaving.{AreGoodPlans}
use Rattle.staat_model.specs.Plans.{plan_of}
use Rattle.staat_model.specs.SetLists.{set_of}
use Rattle.staat_decide.proofs.SmallSteps.{HaveSmallDirections}
use Rattle.staat_decide.proofs.planning.+deciding.Given as goal

abbrev pub invariant-planned-loop-s : goal.invariant-planned-loop-s
invariant-planned-loop-s g l = record {
  good : AreGoodPlans l.scene.parts.now (map set_of (take l.s-index l.sets)) (map plan_of l.trees.items);
  small : HaveSmallDirections (map plan_of l.trees.items);
}

abbrev pub decreases-decision_of : goal.decreases-decision_of
decreases-decision_of g l = 2 * length l.w.now + 1

abbrev pub decreases-planned : goal.decreases-planned
decreases-planned g l = 2 * length l.w.now
