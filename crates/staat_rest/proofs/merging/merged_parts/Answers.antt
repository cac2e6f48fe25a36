use Rattle.std.proofs.Common.{List, subst}
use Rattle.staat_motion.proofs.Zips.{zip_more}
use Rattle.staat_rest.specs.declared.merging.Origin.{Origin}
use Rattle.staat_rest.specs.Merging.{IsMergedPart}
use Rattle.staat_rest.proofs.merging.merged_parts.Goals as goal

pub loop-list-preserved : goal.loop-list-preserved
loop-list-preserved c =
    let R = IsMergedPart c.args.parts.now in
    let origins = c.args.origins.now in
    let i = c.loop-list.list-index in
    let part = c.in_ok-merged_part.field-0 in
    let own : R c.list-item.result part = subst (λ (os : List Origin). R os part) c.as_slice.ensures c.in_ok-merged_part.ensures in
    rw c.in_ok-push.ensures.items
    (zip_more R origins c.loop-list.merged.items i c.list-item.result part c.loop-list-test.true c.loop-list.invariant (subst (λ (os : List Origin). R os part) c.list-item.is own))
