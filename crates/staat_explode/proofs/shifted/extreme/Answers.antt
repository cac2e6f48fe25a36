use Rattle.std.proofs.Common.{◌∙◌, ◌+◌, ap, arith, to_z}
use Rattle.std.specs.Int.{w128}
use Rattle.staat_vec.specs.declared.vector.TheConstants.{POINT}
use Rattle.staat_vec.proofs.Bounds.{reads}
use Rattle.staat_explode.specs.declared.grow.TheConstants.{FARTHEST}
use Rattle.staat_explode.specs.Boxes.{further}
use Rattle.staat_explode.proofs.Folds.{extreme_is, extreme_more}
use Rattle.staat_explode.proofs.shifted.extreme.Goals as goal

pub loop-p-init : goal.loop-p-init
loop-p-init c =
    let first = c.end_along-furthest.ensures in
    rw (reads c.end_along-furthest.result (omega (arith, first.size)))
    (record { furthest = extreme_is _ _ _ c.args.placed.now _ _ c.requires.some first.value; size = first.size })

pub loop-p-preserved : goal.loop-p-preserved
loop-p-preserved c =
    let x = to_z w128 c.loop-p.furthest-bits in
    let held = reads c.end_along.result (omega (arith, c.end_along.ensures.size)) in
    let is = c.further-furthest.ensures.value ∙ ap (further c.args.end x) held in
    let small = c.further-furthest.ensures.size (POINT + FARTHEST) c.loop-p.invariant.size (rw held c.end_along.ensures.size) in
    rw (reads c.further-furthest.result (omega (arith, small)))
    (record {
      furthest = extreme_more c.args.boxes.now c.args.axis c.args.end c.args.placed.now c.loop-p.p-index _ x _ _ c.loop-p-test.true c.end_along.ensures.value is ∙ c.loop-p.invariant.furthest;
      size = small;
    })
