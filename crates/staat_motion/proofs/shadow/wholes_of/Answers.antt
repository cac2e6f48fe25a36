use Rattle.std.proofs.Common.{◌+◌, ◌∙◌, List, subst, sym, take}
use Rattle.std.specs.List.{AllZip}
use Rattle.staat_motion.specs.declared.shadow.Shadow.{Shadow}
use Rattle.staat_motion.specs.Shadows.{IsWholeOf}
use Rattle.staat_motion.proofs.Zips.{zip_more}
use Rattle.staat_motion.proofs.shadow.wholes_of.Goals as goal

pub loop-pieces-preserved : goal.loop-pieces-preserved
loop-pieces-preserved c =
    let all = c.args.shadows.now in
    let i = c.loop-pieces.pieces-index in
    let w = c.whole_of.result in
    subst (λ (ws : List Shadow). AllZip IsWholeOf (take (i + 1) all) ws) (sym {A = List Shadow} c.in_ok-push.ensures.items)
    (zip_more IsWholeOf all c.loop-pieces.wholes.items i c.pieces-item.result w c.loop-pieces-test.true c.loop-pieces.invariant
    (subst (λ (s : List Shadow). IsWholeOf s w) (c.as_slice.ensures ∙ c.pieces-item.is) c.whole_of.ensures))
