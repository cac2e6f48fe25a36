use Rattle.std.proofs.Common.{subst, map}
use Rattle.staat_samples.specs.Hulls.{IsUnionAnswer, box_corners}
use Rattle.staat_drill.proofs.BoxLemmas.{all_have_hulls, union_only}
use Rattle.staat_drill.proofs.products.part_of_boxes.Goals as goal

pub unreachable-requires : goal.unreachable-requires
unreachable-requires c =
    let cs = c.args.corners.now in
    all_have_hulls cs c.requires (subst (IsUnionAnswer (map (λ d. box_corners d.0 d.1) cs)) c.in_default.is c.in_ok-part.ensures)

pub returns : goal.returns
returns c =
    let cs = c.args.corners.now in
    union_only cs c.in-Some.part c.requires (subst (IsUnionAnswer (map (λ d. box_corners d.0 d.1) cs)) c.in-Some.is c.in_ok-part.ensures)
