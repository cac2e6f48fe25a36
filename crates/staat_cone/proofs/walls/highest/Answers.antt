use Rattle.std.proofs.Common.{subst, ◌≤ℤ◌}
use Rattle.staat_vec.specs.Vectors.{dot, origin}
use Rattle.staat_cone.proofs.WallLemmas.{farther_step, placed_step}
use Rattle.staat_cone.proofs.walls.highest.Goals as goal

pub loop-p-preserved : goal.loop-p-preserved
loop-p-preserved c =
    let n = c.args.n in
    let xs = c.args.points.now in
    let i = c.loop-p.p-index in
    let old = c.loop-p.best in
    let new = c.farther-best.result in
    let h = c.farther-best.ensures in
    let kept = placed_step n xs i origin old c.place.result new c.loop-p-test.true c.loop-p.invariant.member c.loop-p.invariant.along c.place.ensures.point c.place.ensures.along h.either in record {
      member = kept.0;
      along = kept.1;
      bound = farther_step (dot n) xs i origin old.along new.along c.loop-p-test.true c.loop-p.invariant.bound (subst (λ y. y ≤ℤ new.along) c.place.ensures.along h.first) h.second;
    }
