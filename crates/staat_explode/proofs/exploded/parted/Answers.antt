use Rattle.std.proofs.Common.{◌++◌, map, refl, subst}
use Rattle.staat_explode.specs.Shifts.{moved_on}
use Rattle.staat_explode.specs.Splits.{HasFar}
use Rattle.staat_explode.proofs.Exploding.{far_in_map}
use Rattle.staat_explode.proofs.exploded.parted.Goals as goal

pub returns-in-None : goal.returns-in-None
returns-in-None c = (
  refl,
  subst (λ m. HasFar (map (moved_on m c.args.d) c.args.moved.now ++ c.args.rest.now)) c.steps_apart-m.ensures.value
      (far_in_map (moved_on c.steps_apart-m.result c.args.d) c.args.moved.now c.args.rest.now c.loop-p.p-index _ c.loop-p-test.true c.in-None.ensures),
)
