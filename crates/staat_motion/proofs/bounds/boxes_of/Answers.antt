use Rattle.std.proofs.Common.{◌+◌, List, subst, sym, take}
use Rattle.std.specs.List.{AllZip}
use Rattle.staat_motion.specs.declared.bounds.Bounds.{Bounds}
use Rattle.staat_motion.specs.Shadows.{IsBounds}
use Rattle.staat_motion.proofs.Zips.{zip_more}
use Rattle.staat_motion.proofs.bounds.boxes_of.Goals as goal

pub loop-piece-preserved : goal.loop-piece-preserved
loop-piece-preserved c =
    let ps = c.args.pieces.now in
    let i = c.loop-piece.piece-index in
    let y = c.bounds_of.result in
    subst (λ (bs : List Bounds). AllZip IsBounds (take (i + 1) ps) bs) (sym {A = List Bounds} c.in_ok-push.ensures.items)
    (zip_more IsBounds ps c.loop-piece.boxes.items i c.piece-item.result y c.loop-piece-test.true c.loop-piece.invariant (subst (λ p. IsBounds p y) c.piece-item.is c.bounds_of.ensures))
