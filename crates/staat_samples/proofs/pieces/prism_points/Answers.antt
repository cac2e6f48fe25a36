use Rattle.std.proofs.Common.{◌∙◌, ◌++◌, ◌∷◌, []}
use Rattle.staat_samples.proofs.HullLemmas.{prism_corners_more}
use Rattle.staat_samples.proofs.pieces.prism_points.Goals as goal

pub loop-corner-preserved : goal.loop-corner-preserved
loop-corner-preserved c =
    let front = c.in_ok-push.ensures.items ∙ (λ i. c.loop-corner.points.items ++ c.point_over.ensures i ∷ []) in
    c.in_ok-push-2.ensures.items ∙ (λ i. front i ++ c.point_over-in-loop-corner.ensures i ∷ []) ∙
    prism_corners_more c.args.base.now c.loop-corner.corner-index _ c.loop-corner.points.items c.loop-corner-test.true
    c.loop-corner.invariant
