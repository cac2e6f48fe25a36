-- The planes of the facets of a table are those of each assembly that it was made from.
use Rattle.std.proofs.Common.{◌≡◌, ◌↔◌, inl, inr, ⊎_elim, ℕ, ◌-◌, ◌<◌, ◌≤◌, arith, ap, sym, subst, ◌∙◌, refl, Bool, List, ◌++◌, length, Contains, get_or}
use Rattle.std.specs.Prelude.{IsTrue, Some, slice_get}
use Rattle.std.proofs.lemmas.List.{get_or_append_left, get_or-append_right}
use Rattle.std.proofs.lemmas.List.Elements.{Contains-append_cases}
use Rattle.std.proofs.lemmas.Option.{get_or_from_slice_get, slice_get_within}
use Rattle.staat_vec.specs.declared.vector.V3.{V3}
use Rattle.staat_model.specs.declared.assembly.Part.{Part}
use Rattle.staat_model.specs.declared.set.PartSet.{PartSet}
use Rattle.staat_model.specs.Planes.{ArePlanes, axes}
use Rattle.staat_model.specs.Sets.{IsSubset}
use Rattle.staat_model.proofs.GraphLemmas.{axis_in, plane_in}
use Rattle.staat_pairs.specs.Searches.{HasPlane}
use Rattle.staat_pairs.specs.Tables.{Table, WasMadeFrom}
use Rattle.staat_planes.specs.Tables.{IsPlaneOf}
use Rattle.staat_pairs.proofs.SearchLemmas.{HasFacetsOf, facet_planes}

facets_from : (parts : List Part) (t : Table) → WasMadeFrom parts t → HasFacetsOf parts t
facets_from parts t made = record { pieces = made.pieces; facets = made.facets }

-- ---- by the place in the table

axis_at : (planes others : List V3) (k : ℕ) (n : V3) → planes ≡ axes ++ others → k < 3 → slice_get planes k ≡ Some n → Contains axes n
axis_at planes others k n e lt at = (k, lt, sym (get_or_append_left axes others n k lt) ∙ ap (λ ps. get_or ps k n) (sym e) ∙ get_or_from_slice_get planes k n n at)

pub other_at : (planes others : List V3) (k : ℕ) (n : V3) → planes ≡ axes ++ others → 3 ≤ k → slice_get planes k ≡ Some n → Contains others n
other_at planes others k n e le at =
    let lt : k < length (axes ++ others) = subst (λ ps. k < length ps) e (slice_get_within planes k n at) in
    (k - 3, omega arith, sym (get_or-append_right axes others 3 k n refl le) ∙ ap (λ ps. get_or ps k n) (sym e) ∙ get_or_from_slice_get planes k n n at)

pub axis_used : (parts : List Part) (t : Table) (w : PartSet) (k : ℕ) (n : V3) (r : Bool) → WasMadeFrom parts t → slice_get t.planes k ≡ Some n → k < 3 → IsTrue r → IsTrue r ↔ IsPlaneOf parts w n
axis_used parts t w k n r made at lt told = (λ _. inl (axis_at t.planes made.planes.others k n made.planes.is lt at), λ _. told)

pub other_used : (parts : List Part) (t : Table) (w : PartSet) (k : ℕ) (n : V3) (r : Bool) → WasMadeFrom parts t → IsSubset w t.of → slice_get t.planes k ≡ Some n → 3 ≤ k → IsTrue r ↔ HasPlane t w n → IsTrue r ↔ IsPlaneOf parts w n
other_used parts t w k n r made within at le told =
    let law = facet_planes parts t w within (facets_from parts t made) n in
    let no_axis = (made.planes.others_are.each n (other_at t.planes made.planes.others k n made.planes.is le at)).1 in
    (λ y. inr (law.0 (told.0 y)), λ is. ⊎_elim {C = IsTrue r} (λ axis. absurd (no_axis axis)) (λ plane. told.1 (law.1 plane)) is)

pub listed_used : (parts : List Part) (w : PartSet) (planes : List V3) (n : V3) (r : Bool) → ArePlanes parts w planes → IsTrue r ↔ IsPlaneOf parts w n → IsTrue r ↔ Contains planes n
listed_used parts w planes n r are told = (
  λ y. ⊎_elim {C = Contains planes n} (λ axis. axis_in parts w planes n are axis) (λ plane. plane_in parts w planes n are plane) (told.0 y),
  λ c. told.1 (⊎_elim {C = IsPlaneOf parts w n} (λ axis. inl axis) (λ other. inr (are.others_are.each n other).0) (Contains-append_cases axes are.others n (subst (λ ps. Contains ps n) are.is c))),
)
