-- No two planes of a set of parts are parallel.
use Rattle.std.proofs.Common.{◌≡◌, ◌≢◌, ℕ, zero, suc, refl, sym, ap, subst, ◌∙◌, arith, pos, negsuc, List, [], ◌∷◌, ◌++◌, All, Contains, ⊎_elim, drop}
use Rattle.std.proofs.lemmas.Int.{ints}
use Rattle.std.proofs.lemmas.List.Elements.{All-cons, All-contains, Contains-append_cases}
use Rattle.std.proofs.lemmas.Map.Views.{All-after_first}
use Rattle.std.proofs.Math.Nat.{eq-one_of_dvd-one}
use Rattle.std.specs.declared.cmp.Ordering.TheVariants.{Less}
use Rattle.std.specs.List.Sorted.{IsStrictlySortedBy}
use Rattle.staat_vec.specs.declared.vector.V3.{V3}
use Rattle.staat_vec.specs.Vectors.{cross, origin, vector_cmp}
use Rattle.staat_vec.specs.Primitives.{IsPrimitive, IsCanon}
use Rattle.staat_vec.proofs.Primitives.{IsPrimitive-some}
use Rattle.staat_vec.proofs.Canons.{IsCanon-canon, IsPrimitive-canon, canon-same, same_canon}
use Rattle.staat_model.specs.declared.assembly.Part.{Part}
use Rattle.staat_model.specs.declared.set.PartSet.{PartSet}
use Rattle.staat_model.specs.Planes.{ArePlanes, IsFacetPlane, axes}
use Rattle.staat_model.proofs.Members.{All-from_members}
use Rattle.staat_vec.proofs.VectorOrder.{less_apart}
use Rattle.staat_vec.proofs.VectorLists.{sorted_tail}
use Rattle.staat_vec.proofs.Unique.{Contains-front}
use Rattle.staat_vec.proofs.ListLaws.{Contains-there}

-- each later plane is not parallel to an earlier one
abbrev pub NoneParallel : List V3 → Type 0
NoneParallel [] = Unit {0}
NoneParallel (g ∷ gs) = All (λ h. cross g h ≢ origin) gs × NoneParallel gs

-- primitive, with the first component that is not 0 positive
pub record IsNormal (n : V3) : Type 0 where
  pub primitive : IsPrimitive n
  pub canonical : IsCanon n

pub apart : (g h : V3) → IsNormal g → IsNormal h → g ≢ h → cross g h ≢ origin
apart g h p q other e = other (sym (canon-same g p.canonical) ∙ same_canon g h p.primitive q.primitive e ∙ canon-same h q.canonical)

pub sorted_apart : (gs : List V3) → ((g : V3) → Contains gs g → IsNormal g) → IsStrictlySortedBy vector_cmp gs → NoneParallel gs
sorted_apart [] normal s = tt
sorted_apart (g ∷ gs) normal s = (
  All-from_members (λ h. cross g h ≢ origin) gs
      (λ h in_gs. apart g h (normal g (Contains-front g gs)) (normal h (Contains-there g h gs in_gs)) (less_apart g h (All-contains (λ q. vector_cmp g q ≡ Less) gs h (All-after_first vector_cmp g gs s) in_gs))),
  sorted_apart gs (λ h in_gs. normal h (Contains-there g h gs in_gs)) (sorted_tail g gs s),
)

-- ---- the axes

pub axis_normal : (g : V3) → Contains axes g → IsNormal g
axis_normal g (zero, lt, e) = subst IsNormal e (record { primitive = λ d p q r. eq-one_of_dvd-one p; canonical = omega (arith, ints) })
axis_normal g (suc zero, lt, e) = subst IsNormal e (record { primitive = λ d p q r. eq-one_of_dvd-one q; canonical = omega (arith, ints) })
axis_normal g (suc (suc zero), lt, e) = subst IsNormal e (record { primitive = λ d p q r. eq-one_of_dvd-one r; canonical = omega (arith, ints) })
axis_normal g (suc (suc (suc k)), lt, e) = absurd (omega arith)

pub with_axes : (others : List V3) → ((g : V3) → Contains others g → IsNormal g) → ((g : V3) → Contains others g → Contains axes g → ⊥) → NoneParallel others → NoneParallel (axes ++ others)
with_axes others normal none rest =
    let x : V3 = record { x = pos 1; y = pos 0; z = pos 0 } in
    let y : V3 = record { x = pos 0; y = pos 1; z = pos 0 } in
    let z : V3 = record { x = pos 0; y = pos 0; z = pos 1 } in
    let all : (axis : V3) → Contains axes axis → All (λ h. cross axis h ≢ origin) others = λ axis a. All-from_members (λ h. cross axis h ≢ origin) others (λ h c. off axis h a c) in (
      All-cons (λ h. cross x h ≢ origin) y (z ∷ others) (λ e. let wrong : pos 1 ≡ pos 0 = ap (λ (v : V3). v.z) e in cc)
          (All-cons (λ h. cross x h ≢ origin) z others (λ e. let wrong : negsuc 0 ≡ pos 0 = ap (λ (v : V3). v.y) e in cc) (all x (0, omega arith, refl))),
      (All-cons (λ h. cross y h ≢ origin) z others (λ e. let wrong : pos 1 ≡ pos 0 = ap (λ (v : V3). v.x) e in cc) (all y (1, omega arith, refl)), (all z (2, omega arith, refl), rest)),
    )
  where
    off : (axis h : V3) → Contains axes axis → Contains others h → cross axis h ≢ origin
    off axis h a c = apart axis h (axis_normal axis a) (normal h c) (λ e. none h c (subst (Contains axes) e a))

wall_normal : (parts : List Part) (w : PartSet) (n : V3) → IsFacetPlane parts w n → IsNormal n
wall_normal parts w n wall =
    let f = wall.holds.holds in
    subst IsNormal (sym wall.is) (record { primitive = IsPrimitive-canon wall.facet f.primitive; canonical = IsCanon-canon wall.facet (IsPrimitive-some wall.facet f.primitive) })

pub planes_apart : (parts : List Part) (w : PartSet) (planes : List V3) → ArePlanes parts w planes → NoneParallel planes
planes_apart parts w planes are =
    let normal : (g : V3) → Contains are.others g → IsNormal g = λ g c. wall_normal parts w g (are.others_are.each g c).0 in
    subst NoneParallel (sym are.is) (with_axes are.others normal (λ g c. (are.others_are.each g c).1) (sorted_apart are.others normal are.others_are.ascending))

pub plane_normal : (parts : List Part) (w : PartSet) (planes : List V3) (g : V3) → ArePlanes parts w planes → Contains planes g → IsNormal g
plane_normal parts w planes g are has =
    ⊎_elim (axis_normal g) (λ c. wall_normal parts w g (are.others_are.each g c).0) (Contains-append_cases axes are.others g (subst (λ gs. Contains gs g) are.is has))

pub plane_some : (parts : List Part) (w : PartSet) (planes : List V3) (g : V3) → ArePlanes parts w planes → Contains planes g → g ≢ origin
plane_some parts w planes g are has = let n = plane_normal parts w planes g are has in IsPrimitive-some g n.primitive

pub apart_behind : (gs : List V3) (k : ℕ) → NoneParallel gs → NoneParallel (drop k gs)
apart_behind gs zero apart = apart
apart_behind [] (suc k) apart = tt
apart_behind (g ∷ gs) (suc k) apart = apart_behind gs k apart.1
