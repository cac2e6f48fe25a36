use Rattle.std.proofs.Common.{◌≡◌, ◌∙◌, ◌≤ℤ◌, ap, get_or, subst}
use Rattle.staat_vec.specs.declared.vector.V3.{V3}
use Rattle.staat_vec.specs.Vectors.{dot, origin}
use Rattle.staat_cone.proofs.WallLemmas.{nearer_step, farther_step}
use Rattle.staat_motion.proofs.SpanSteps.{place_more}
use Rattle.staat_motion.proofs.spans.span_of.Goals as goal

pub loop-p-preserved : goal.loop-p-preserved
loop-p-preserved c =
    let n = c.args.n in
    let xs = c.args.points.now in
    let i = c.loop-p.p-index in
    let old = c.loop-p.span in
    let new = c.joined-span.result in
    let here = c.point_span.result in
    let low_at : here.low ≡ dot n (get_or xs i origin) = c.point_span.ensures.low ∙ ap (λ (m : V3). dot m (get_or xs i origin)) c.of-course.ensures in
    let high_at : here.high ≡ dot n (get_or xs i origin) = c.point_span.ensures.high ∙ ap (λ (m : V3). dot m (get_or xs i origin)) c.of-course.ensures in
    let h = c.joined-span.ensures in record {
      low_in = place_more n xs i origin old.low here.low new.low c.loop-p-test.true c.loop-p.invariant.low_in low_at h.low;
      high_in = place_more n xs i origin old.high here.high new.high c.loop-p-test.true c.loop-p.invariant.high_in high_at h.high;
      least = nearer_step (dot n) xs i origin old.low new.low c.loop-p-test.true c.loop-p.invariant.least (subst (λ y. new.low ≤ℤ y) low_at h.low_a) h.low_b;
      greatest = farther_step (dot n) xs i origin old.high new.high c.loop-p-test.true c.loop-p.invariant.greatest (subst (λ y. y ≤ℤ new.high) high_at h.high_a) h.high_b;
    }
