use Rattle.std.proofs.Common.{◌+◌, subst, sym, take}
use Rattle.std.specs.Prelude.{map}
use Rattle.std.specs.List.{AllZip}
use Rattle.staat_samples.specs.Hulls.{IsHull, IsHullAnswer, prism_corners}
use Rattle.staat_samples.proofs.HullLemmas.{hulls_more, none_at}
use Rattle.staat_samples.proofs.assemblies.prisms.Goals as goal

pub returns-in_default : goal.returns-in_default
returns-in_default c =
    none_at prism_corners c.args.bases.now c.loop-base.base-index _ c.loop-base-test.true
    (subst (IsHullAnswer _) c.in_default.is c.in_ok-piece.ensures)

pub loop-base-preserved : goal.loop-base-preserved
loop-base-preserved c =
    let now = c.loop-base in
    let hull = subst (IsHullAnswer _) c.in-Some.is c.in_ok-piece.ensures in
    let more = hulls_more prism_corners c.args.bases.now now.base-index _ now.pieces.items _
    c.loop-base-test.true now.invariant hull in
    subst (λ hulls. AllZip IsHull (map prism_corners (take (now.base-index + 1) c.args.bases.now)) hulls)
    (sym c.in_ok-push.ensures.items) more
