-- Polygons, corner by corner, and the polygon of a face of a mesh.
use Rattle.std.proofs.Common.{◌≡◌, ◌<◌, ◌+◌, ℕ, List, [], ◌∷◌, ◌++◌, length, take, get_or, Some, ap, sym, subst, ◌∙◌}
use Rattle.std.specs.Prelude.{All, slice_get, option_map}
use Rattle.std.specs.List.{cons_option}
use Rattle.std.proofs.lemmas.List.{length-map, take_more}
use Rattle.std.proofs.lemmas.List.Elements.{All-contains, All-more, filter_map-append}
use Rattle.std.proofs.lemmas.Option.{get_or_from_slice_get, slice_get-get_or, slice_get-map, slice_get_within}
use Rattle.staat_vec.specs.declared.vector.V3.{V3}
use Rattle.staat_model.proofs.Members.{All-from_members}
use Rattle.staat_off.specs.declared.raw.Raw.{Raw}
use Rattle.staat_mesh.specs.Polygons.{Polygon, mesh, polygon}
use Rattle.staat_mesh.proofs.UsedPoints.{IsMapped, from_filter_map}
use Rattle.staat_vec.proofs.ListLaws.{place_in_map}
use Rattle.staat_vec.proofs.Unique.{from_place}

pub polygon_more : (positions : List V3) (face : List ℕ) (i : ℕ) (d : V3) → i < length face → get_or face i 0 < length positions → polygon positions (take (i + 1) face) ≡ polygon positions (take i face) ++ get_or positions (get_or face i 0) d ∷ []
polygon_more positions face i d lt within =
    ap (polygon positions) (take_more face i 0 lt)
    ∙ filter_map-append (slice_get positions) (take i face) (get_or face i 0 ∷ [])
    ∙ ap (λ o. polygon positions (take i face) ++ cons_option o []) (slice_get-get_or positions (get_or face i 0) d within)

-- what holds of all positions holds of a face's corners
pub All-polygon : (P : V3 → Type 0) (positions : List V3) (face : List ℕ) → All P positions → All P (polygon positions face)
All-polygon P positions face all =
    All-from_members P (polygon positions face)
    (λ p h. let at : IsMapped (slice_get positions) face p = from_filter_map (slice_get positions) face p h in All-contains P positions p all (from_place positions at.0 p at.2))

-- the i-th polygon of the mesh is the one that was traced
pub traced : (raw : Raw) (i : ℕ) (shown corners positions : List V3) (face item : List ℕ) (faces : List (List ℕ)) → shown ≡ corners → corners ≡ polygon positions face → positions ≡ raw.points → face ≡ item → item ≡ get_or faces i item → faces ≡ raw.faces → i < length faces → slice_get (mesh raw) i ≡ Some shown
traced raw i shown corners positions face item faces e f g h j k lt =
    let there : slice_get raw.faces i ≡ Some face = ap (λ xs. slice_get xs i) (sym k) ∙ slice_get-get_or faces i item lt ∙ ap Some (sym j ∙ sym h) in
    slice_get-map (polygon raw.points) raw.faces i ∙ ap (option_map (polygon raw.points)) there ∙ ap Some (ap (λ ps. polygon ps face) (sym g) ∙ sym f ∙ sym e)

pub All-member : (P : V3 → Type 0) (raw : Raw) (i : ℕ) (shown : Polygon) → slice_get (mesh raw) i ≡ Some shown → All P raw.points → All P shown
All-member P raw i shown e all =
    let (face, _, same) = place_in_map (polygon raw.points) raw.faces i shown e in subst (All P) same (All-polygon P raw.points face all)

-- ---- one more element of which something holds

pub All-next : {X : Type 0} (P : X → Type 0) (xs : List X) (i : ℕ) (x : X) → All P (take i xs) → slice_get xs i ≡ Some x → P x → All P (take (i + 1) xs)
All-next P xs i x all e p = All-more P xs i x (slice_get_within xs i x e) all (subst P (sym (get_or_from_slice_get xs i x x e)) p)

pub length-mesh : (raw : Raw) → length (mesh raw) ≡ length raw.faces
length-mesh raw = length-map raw.faces (polygon raw.points)
