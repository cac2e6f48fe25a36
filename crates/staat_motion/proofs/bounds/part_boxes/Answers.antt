use Rattle.std.proofs.Common.{◌+◌, subst, sym, take, List}
use Rattle.std.specs.List.{AllZip}
use Rattle.staat_vec.specs.declared.vector.V3.{V3}
use Rattle.staat_model.specs.declared.assembly.Part.{Part}
use Rattle.staat_motion.specs.declared.bounds.Bounds.{Bounds}
use Rattle.staat_motion.specs.Shadows.{ArePartBounds, IsBounds}
use Rattle.staat_motion.proofs.Zips.{zip_more}
use Rattle.staat_motion.proofs.bounds.part_boxes.Goals as goal

pub loop-part-preserved : goal.loop-part-preserved
loop-part-preserved c =
    let parts = c.args.parts.now in
    let i = c.loop-part.part-index in
    let y = c.in_ok-boxes.boxes in
    let here = subst (λ (ps : List (List V3)). AllZip IsBounds ps y) c.as_slice.ensures c.in_ok-boxes.ensures in
    subst (ArePartBounds (take (i + 1) parts)) (sym c.in_ok-push.ensures.items)
    (zip_more (λ (part : Part) (b : List Bounds). AllZip IsBounds part.pieces b) parts c.loop-part.all.items i c.part-item.result y c.loop-part-test.true c.loop-part.invariant (subst (λ (part : Part). AllZip IsBounds part.pieces y) c.part-item.is here))
