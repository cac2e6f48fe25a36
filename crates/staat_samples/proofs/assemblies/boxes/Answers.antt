use Rattle.std.proofs.Common.{◌+◌, subst, sym, take}
use Rattle.std.specs.Prelude.{map}
use Rattle.std.specs.List.{AllZip}
use Rattle.staat_samples.specs.Hulls.{IsHull, IsHullAnswer, box_corners}
use Rattle.staat_samples.proofs.HullLemmas.{hulls_more, none_at}
use Rattle.staat_samples.proofs.assemblies.boxes.Goals as goal

pub returns-in_default : goal.returns-in_default
returns-in_default c =
    none_at (λ p. box_corners p.0 p.1) c.args.corners.now c.loop-corner.corner-index _ c.loop-corner-test.true
    (subst (IsHullAnswer _) c.in_default.is c.in_ok-piece.ensures)

pub loop-corner-preserved : goal.loop-corner-preserved
loop-corner-preserved c =
    let now = c.loop-corner in
    let hull = subst (IsHullAnswer _) c.in-Some.is c.in_ok-piece.ensures in
    let more = hulls_more (λ p. box_corners p.0 p.1)
    c.args.corners.now now.corner-index _ now.pieces.items _
    c.loop-corner-test.true now.invariant hull in
    subst (λ hulls. AllZip IsHull
    (map (λ p. box_corners p.0 p.1) (take (now.corner-index + 1) c.args.corners.now)) hulls)
    (sym c.in_ok-push.ensures.items) more
