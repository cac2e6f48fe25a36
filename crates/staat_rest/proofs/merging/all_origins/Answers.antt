use Rattle.staat_motion.proofs.Zips.{zip_more}
use Rattle.staat_rest.specs.Merging.{AreOrigins}
use Rattle.staat_rest.proofs.merging.all_origins.Goals as goal

pub loop-head-preserved : goal.loop-head-preserved
loop-head-preserved c =
    let R = AreOrigins c.args.parts.now c.args.names.now in
    let heads = c.args.heads.now in
    let i = c.loop-head.head-index in
    rw c.in_ok-push.ensures.items
    (zip_more R heads c.loop-head.all.items i 0 c.in_ok-origins_of.field-0 c.loop-head-test.true c.loop-head.invariant c.in_ok-origins_of.ensures)
