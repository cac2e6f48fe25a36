use Rattle.std.proofs.Common.{◌≡◌, refl, subst, below_more}
use Rattle.std.proofs.lemmas.List.{get_or_default}
use Rattle.staat_vec.specs.declared.vector.V3.{V3}
use Rattle.staat_vec.specs.declared.vector.Sign.TheVariants.{Zero}
use Rattle.staat_vec.specs.Vectors.{origin}
use Rattle.staat_mesh.specs.Planes.{side_of}
use Rattle.staat_mesh.proofs.plane.Plane.has_all.Goals as goal

pub loop-p-preserved : goal.loop-p-preserved
loop-p-preserved c = λ k d. below_more _ c.loop-p.p-index (λ n. c.loop-p.invariant n d) (subst (λ (p : V3). side_of c.args.self p ≡ Zero) (get_or_default c.args.points.now c.loop-p.p-index origin d c.loop-p-test.true) (c.if-not-has.ensures.0 refl)) k
