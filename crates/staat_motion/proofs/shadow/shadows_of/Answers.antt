use Rattle.std.proofs.Common.{◌+◌, List, arith, subst, sym, take}
use Rattle.std.specs.List.{AllZip}
use Rattle.staat_motion.specs.declared.shadow.Shadow.{Shadow}
use Rattle.staat_motion.specs.Shadows.{IsBounds, IsShadow}
use Rattle.staat_motion.proofs.Zips.{zip_length, zip_more, zip_read}
use Rattle.staat_motion.proofs.shadow.shadows_of.Goals as goal

pub bounds-boxes-j : goal.bounds-boxes-j
bounds-boxes-j c =
    let all = zip_length IsBounds c.args.pieces.now c.args.boxes.now c.requires.boxes in
    omega (arith, all)

pub offset_bounds-boxes-j : goal.offset_bounds-boxes-j
offset_bounds-boxes-j c =
    let all = zip_length IsBounds c.args.pieces.now c.args.boxes.now c.requires.boxes in
    omega (arith, all)

pub shadow_of-requires-clause-bounds : goal.shadow_of-requires-clause-bounds
shadow_of-requires-clause-bounds c = zip_read IsBounds c.args.pieces.now c.args.boxes.now c.loop-j.j c.index-pieces-j.result _ c.requires.boxes c.loop-j-test.true c.index-pieces-j.is

pub loop-j-preserved : goal.loop-j-preserved
loop-j-preserved c =
    let f = c.args.frame.now in
    let ps = c.args.pieces.now in
    let i = c.loop-j.j in
    let y = c.shadow_of.result in
    subst (λ (ss : List Shadow). AllZip (IsShadow f) (take (i + 1) ps) ss) (sym {A = List Shadow} c.in_ok-push.ensures.items)
    (zip_more (IsShadow f) ps c.loop-j.shadows.items i c.index-pieces-j.result y c.loop-j-test.true c.loop-j.invariant (subst (λ p. IsShadow f p y) c.index-pieces-j.is c.shadow_of.ensures))
