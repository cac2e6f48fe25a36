-- The marked positions are those that faces use.
use Rattle.std.proofs.Common.{◌≡◌, ◌≤◌, ◌⊎◌, ℕ, zero, suc, Bool, true, false, List, [], ◌∷◌, length, map, Option, Some, None, inl, inr, refl, ap, sym, subst, ◌∙◌, arith, ⊎_elim}
use Rattle.std.specs.Prelude.{Any, Contains, filter, slice_get}
use Rattle.std.specs.List.{zip, filter_map, cons_option}
use Rattle.std.proofs.lemmas.List.{length-map}
use Rattle.std.proofs.lemmas.List.Sums.{count_by-le-length, length-filter}
use Rattle.std.proofs.lemmas.Slice.Zip.{length-zip}
use Rattle.staat_vec.specs.declared.vector.V3.{V3}
use Rattle.staat_vec.specs.Lists.{Lists}
use Rattle.staat_vec.specs.Vectors.{vector_cmp}
use Rattle.staat_vec.proofs.ListLaws.{Contains-from_map, Contains-map}
use Rattle.staat_vec.proofs.Unique.{Contains-cases, Contains-front, Contains-later, Contains-nothing}
use Rattle.staat_off.specs.declared.raw.Raw.{Raw}
use Rattle.staat_mesh.specs.MarkedVertices.{IsMarked, MarksCorners}
use Rattle.staat_mesh.specs.Polygons.{IsUsed, mesh, polygon}

-- ---- the members of a filter_map

cons_cases : {Y : Type 0} (o : Option Y) (ys : List Y) (y : Y) → Contains (cons_option o ys) y → (o ≡ Some y) ⊎ Contains ys y
cons_cases None ys y h = inr h
cons_cases (Some z) ys y h = ⊎_elim (λ e. inl (ap Some (sym e))) inr (Contains-cases z ys y h)

cons_front : {Y : Type 0} (o : Option Y) (ys : List Y) (y : Y) → o ≡ Some y → Contains (cons_option o ys) y
cons_front o ys y e = subst (λ p. Contains (cons_option p ys) y) (sym e) (Contains-front y ys)

cons_later : {Y : Type 0} (o : Option Y) (ys : List Y) (y : Y) → Contains ys y → Contains (cons_option o ys) y
cons_later None ys y h = h
cons_later (Some z) ys y h = Contains-later z ys y h

-- some member is mapped there
abbrev pub IsMapped : {X Y : Type 0} → (X → Option Y) → List X → Y → Type 0
IsMapped {X} f xs y = (x : X) × Contains xs x × (f x ≡ Some y)

pub from_filter_map : {X Y : Type 0} (f : X → Option Y) (xs : List X) (y : Y) → Contains (filter_map f xs) y → IsMapped f xs y
from_filter_map f [] y h = absurd (Contains-nothing y h)
from_filter_map f (x ∷ xs) y h = elim (cons_cases (f x) (filter_map f xs) y h) [
  | inl e ↦ (x, Contains-front x xs, e)
  | inr later ↦ let g : IsMapped f xs y = from_filter_map f xs y later in (g.0, Contains-later x xs g.0 g.1, g.2)
]

pub to_filter_map : {X Y : Type 0} (f : X → Option Y) (xs : List X) (x : X) (y : Y) → Contains xs x → f x ≡ Some y → Contains (filter_map f xs) y
to_filter_map f [] x y h e = absurd (Contains-nothing x h)
to_filter_map f (z ∷ xs) x y h e = elim (Contains-cases z xs x h) [
  | inl same ↦ cons_front (f z) (filter_map f xs) y (ap f (sym same) ∙ e)
  | inr later ↦ cons_later (f z) (filter_map f xs) y (to_filter_map f xs x y later e)
]

-- ---- used positions

-- a corner of some face is a vertex there
abbrev pub IsCorner : List V3 → List (List ℕ) → V3 → Type 0
IsCorner positions faces p = (v : ℕ) × Any (λ face. Contains face v) faces × (slice_get positions v ≡ Some p)

pub from_used : (raw : Raw) (p : V3) → IsUsed (mesh raw) p → IsCorner raw.points raw.faces p
from_used raw p (f, corners, lt, same, corner) =
    let face = Contains-from_map (polygon raw.points) raw.faces corners (f, lt, same) in
    let at : IsMapped (slice_get raw.points) face.0 p = from_filter_map (slice_get raw.points) face.0 p (subst (λ cs. Contains cs p) (sym face.2) corner) in
    (at.0, (face.1.0, face.0, face.1.1, face.1.2, at.1), at.2)

pub to_used : (raw : Raw) (p : V3) → IsCorner raw.points raw.faces p → IsUsed (mesh raw) p
to_used raw p (v, (f, face, lt, same, corner), at) =
    let there = Contains-map (polygon raw.points) raw.faces face (f, lt, same) in
    (there.0, polygon raw.points face, there.1, there.2, to_filter_map (slice_get raw.points) face v p corner at)

-- ---- marked positions

abbrev pub marked_of : List V3 → List Bool → List V3
marked_of positions marks = map (λ (e : V3 × Bool). e.0) (filter (λ e. e.1) (zip positions marks))

-- a marked vertex is there
abbrev IsMarkedAt : List V3 → List Bool → V3 → Type 0
IsMarkedAt positions marks p = (v : ℕ) × (slice_get positions v ≡ Some p) × IsMarked marks v

from_marked : (positions : List V3) (marks : List Bool) (p : V3) → Contains (marked_of positions marks) p → IsMarkedAt positions marks p
from_marked [] marks p h = absurd (Contains-nothing p h)
from_marked (x ∷ xs) [] p h = absurd (Contains-nothing p h)
from_marked (x ∷ xs) (true ∷ ms) p h = elim (Contains-cases x (marked_of xs ms) p h) [
  | inl e ↦ (0, ap Some (sym e), refl)
  | inr later ↦ let g : IsMarkedAt xs ms p = from_marked xs ms p later in (suc g.0, g.1, g.2)
]
from_marked (x ∷ xs) (false ∷ ms) p h = let g : IsMarkedAt xs ms p = from_marked xs ms p h in (suc g.0, g.1, g.2)

to_marked : (positions : List V3) (marks : List Bool) (v : ℕ) (p : V3) → slice_get positions v ≡ Some p → IsMarked marks v → Contains (marked_of positions marks) p
to_marked [] marks v p e h = absurd cc
to_marked (x ∷ xs) [] v p e h = absurd cc
to_marked (x ∷ xs) (true ∷ ms) zero p e h = let same : x ≡ p = cc in subst (Contains (x ∷ marked_of xs ms)) same (Contains-front x (marked_of xs ms))
to_marked (x ∷ xs) (true ∷ ms) (suc v) p e h = Contains-later x (marked_of xs ms) p (to_marked xs ms v p e h)
to_marked (x ∷ xs) (false ∷ ms) zero p e h = absurd cc
to_marked (x ∷ xs) (false ∷ ms) (suc v) p e h = to_marked xs ms v p e h

pub length-marked_of : (positions : List V3) (marks : List Bool) → length (marked_of positions marks) ≤ length positions
length-marked_of positions marks =
    let kept = filter (λ (e : V3 × Bool). e.1) (zip positions marks) in
    omega (arith, length-map kept (λ (e : V3 × Bool). e.0), length-filter (λ (e : V3 × Bool). e.1) (zip positions marks), count_by-le-length (λ (e : V3 × Bool). e.1) (zip positions marks), length-zip positions marks)

-- the marked positions in order are the points
pub lists_used : (raw : Raw) (marks : List Bool) (points : List V3) → MarksCorners raw.faces marks → Lists vector_cmp (Contains (marked_of raw.points marks)) points → Lists vector_cmp (IsUsed (mesh raw)) points
lists_used raw marks points marking lists = record {
  ascending = lists.ascending;
  each = λ p h. let g : IsMarkedAt raw.points marks p = from_marked raw.points marks p (lists.each p h) in to_used raw p (g.0, (marking g.0).0 g.2, g.1);
  all = λ p h. let g : IsCorner raw.points raw.faces p = from_used raw p h in lists.all p (to_marked raw.points marks g.0 p g.2 ((marking g.0).1 g.1));
}
