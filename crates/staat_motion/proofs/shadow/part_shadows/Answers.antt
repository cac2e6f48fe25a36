use Rattle.std.proofs.Common.{◌+◌, subst, sym, take, List, arith, get_or}
use Rattle.std.specs.List.{AllZip}
use Rattle.staat_vec.specs.declared.vector.V3.{V3}
use Rattle.staat_model.specs.declared.assembly.Part.{Part}
use Rattle.staat_motion.specs.declared.bounds.Bounds.{Bounds}
use Rattle.staat_motion.specs.declared.shadow.Shadow.{Shadow}
use Rattle.staat_motion.specs.Shadows.{ArePartShadows, IsBounds, IsShadow}
use Rattle.staat_motion.proofs.Zips.{zip_length, zip_more, zip_read}
use Rattle.staat_motion.proofs.shadow.part_shadows.Goals as goal

pub bounds-boxes-k : goal.bounds-boxes-k
bounds-boxes-k c =
    let all = zip_length (λ (part : Part) (b : List Bounds). AllZip IsBounds part.pieces b) c.args.parts.now c.args.boxes.now c.requires.boxes in
    omega (arith, all)

pub shadows_of-requires-clause-boxes : goal.shadows_of-requires-clause-boxes
shadows_of-requires-clause-boxes c =
    let parts = c.args.parts.now in
    let boxes = c.args.boxes.now in
    let k = c.loop-k.k in
    let b = c.index-boxes-k.result in
    let read = zip_read (λ (part : Part) (b : List Bounds). AllZip IsBounds part.pieces b) parts boxes k c.index-parts-k.result b c.requires.boxes c.loop-k-test.true c.index-parts-k.is in
    let at = subst (λ (part : Part). AllZip IsBounds part.pieces (get_or boxes k b)) c.index-parts-k.is read in
    let own = subst (λ (ps : List (List V3)). AllZip IsBounds ps (get_or boxes k b)) (sym c.as_slice.ensures) at in
    subst (λ (bs : List Bounds). AllZip IsBounds c.as_slice.result.now bs) (sym c.as_slice-in-loop-k.ensures)
    (subst (λ (bs : List Bounds). AllZip IsBounds c.as_slice.result.now bs) (sym c.index-boxes-k.is) own)

pub loop-k-preserved : goal.loop-k-preserved
loop-k-preserved c =
    let f = c.args.frame.now in
    let parts = c.args.parts.now in
    let i = c.loop-k.k in
    let y = c.in_ok-shadows.shadows in
    let here = subst (λ (ps : List (List V3)). AllZip (IsShadow f) ps y) c.as_slice.ensures c.in_ok-shadows.ensures in
    subst (ArePartShadows f (take (i + 1) parts)) (sym c.in_ok-push.ensures.items)
    (zip_more (λ (part : Part) (s : List Shadow). AllZip (IsShadow f) part.pieces s) parts c.loop-k.all.items i c.index-parts-k.result y c.loop-k-test.true c.loop-k.invariant here)
