-- No two planes of a core are parallel.
use Rattle.std.proofs.Common.{◌≡◌, sym, subst, arith, pos, negsuc, ℤ, List, Contains}
use Rattle.std.proofs.lemmas.Int.{ints}
use Rattle.staat_vec.specs.declared.vector.V3.{V3}
use Rattle.staat_vec.proofs.Primitives.{IsPrimitive-some}
use Rattle.staat_vec.proofs.Canons.{IsCanon-canon, IsPrimitive-canon}
use Rattle.staat_model.specs.declared.assembly.Part.{Part}
use Rattle.staat_model.specs.declared.certificate.Arc.{Arc}
use Rattle.staat_model.specs.Cores.{IsCorePlane}
use Rattle.staat_model.proofs.PlaneLemmas.{IsNormal, NoneParallel, sorted_apart, with_axes}
use Rattle.staat_holds.specs.Holds.{AreHoldPlanes}

one_zero : ◌≡◌ {A = ℤ} (pos 1) (pos 0) → ⊥
one_zero e = omega (arith, ints)

plane_normal : (parts : List Part) (core : List Arc) (n : V3) → IsCorePlane parts core n → IsNormal n
plane_normal parts core n plane =
    let h = plane.holds in
    let f = h.holds in
    subst IsNormal (sym plane.is) (record { primitive = IsPrimitive-canon plane.facet f.primitive; canonical = IsCanon-canon plane.facet (IsPrimitive-some plane.facet f.primitive) })

pub hold_planes_apart : (parts : List Part) (core : List Arc) (planes : List V3) → AreHoldPlanes parts core planes → NoneParallel planes
hold_planes_apart parts core planes are =
    let normal : (g : V3) → Contains are.others g → IsNormal g = λ g c. plane_normal parts core g (are.others_are.each g c).0 in
    subst NoneParallel (sym are.is) (with_axes are.others normal (λ g c. (are.others_are.each g c).1) (sorted_apart are.others normal are.others_are.ascending))
