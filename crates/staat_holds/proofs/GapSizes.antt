-- How great the directions are in which planes cross.
use Rattle.std.proofs.Common.{◌≢◌, ℕ, ◌*◌, ◌≤◌, ⊎_elim, sym, subst, ◌∙◌, arith, lit≤, List, All, Contains}
use Rattle.std.proofs.lemmas.List.Elements.{All-contains}
use Rattle.staat_vec.specs.declared.vector.V3.{V3}
use Rattle.staat_vec.specs.declared.vector.TheConstants.{DIRECTION, NORMAL}
use Rattle.staat_vec.specs.Primitives.{primitive}
use Rattle.staat_vec.specs.Vectors.{IsWithin, cross, origin}
use Rattle.staat_vec.proofs.Bounds.{IsWithin-cross, IsWithin-negative}
use Rattle.staat_vec.proofs.Primitives.{IsPrimitive-some, IsWithin-primitive, primitive-is}
use Rattle.staat_model.specs.Planes.{vertices}
use Rattle.staat_model.proofs.PlaneLemmas.{NoneParallel}
use Rattle.staat_holds.proofs.GapLemmas.{vertices_from}
use Rattle.staat_vec.proofs.VectorLaws.{negative_some}

-- no vertex is zero, nor greater than a direction may be
pub record IsGapSize (v : V3) : Type 0 where
  pub some : v ≢ origin
  pub within : IsWithin DIRECTION v

wider : (v : V3) → IsWithin (2 * (NORMAL * NORMAL)) v → IsWithin DIRECTION v
wider v h = record { x = le h.x; y = le h.y; z = le h.z }
  where
    le : {n : ℕ} → n ≤ 2 * (NORMAL * NORMAL) → n ≤ DIRECTION
    le {n} small = let most : 2 * (NORMAL * NORMAL) ≤ DIRECTION = lit≤ tt in omega (arith, small, most)

pub gap_size : (planes : List V3) → All (IsWithin NORMAL) planes → NoneParallel planes → (v : V3)
    → Contains (vertices planes) v → IsGapSize v
gap_size planes within apart v c =
    let o = vertices_from planes v apart c in
    let u : V3 = primitive (cross o.g o.h) in
    let size : IsWithin DIRECTION u = IsWithin-primitive DIRECTION (cross o.g o.h) (wider (cross o.g o.h) (IsWithin-cross NORMAL NORMAL o.g o.h (All-contains (IsWithin NORMAL) planes o.g within o.g_in) (All-contains (IsWithin NORMAL) planes o.h within o.h_in))) in
    let p = primitive-is (cross o.g o.h) o.apart in
    let some : u ≢ origin = IsPrimitive-some u p.primitive in
    ⊎_elim {C = IsGapSize v}
    (λ e. record { some = λ z. some (sym e ∙ z); within = subst (IsWithin DIRECTION) (sym e) size })
    (λ e. record { some = λ z. negative_some u some (sym e ∙ z); within = subst (IsWithin DIRECTION) (sym e) (IsWithin-negative DIRECTION u size) })
    o.is
