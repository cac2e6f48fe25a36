-- What the numbers of the planes of facets are.
use Rattle.std.specs.Prelude.{◌≡◌, ◌⊎◌, ℕ, List, [], ◌∷◌, ◌++◌, Contains, Some, length}
use Rattle.std.specs.Prelude.{slice_get}
use Rattle.std.specs.List.Sorted.{IsStrictlySortedBy}
use Rattle.staat_vec.specs.declared.vector.V3.{V3}
use Rattle.staat_vec.specs.Lists.{Lists}
use Rattle.staat_vec.specs.Primitives.{canon}
use Rattle.staat_vec.specs.Vectors.{vector_cmp}
use Rattle.staat_model.specs.Planes.{axes}
use Rattle.staat_pairs.specs.Searches.{IsCanonOf}

-- for each of the vectors the place, in a list of normals, of the normal that it is given
pub record ArePlacesBy (normal : V3 → V3) (normals vectors : List V3) (places : List ℕ) : Type 0 where
  pub count : length places ≡ length vectors
  pub each : (m : ℕ) (v : V3) → slice_get vectors m ≡ Some v
      → (k : ℕ) × (slice_get places m ≡ Some k) × (slice_get normals k ≡ Some (normal v))

-- the numbers of the planes of the facets
abbrev pub ArePlaneNumbers : List V3 → List V3 → List ℕ → Type 0
ArePlaneNumbers planes facets numbers = ArePlacesBy canon planes facets numbers

-- the list with the canonical vector of a facet, which stands at the place and is added unless it was there
pub record IsNormalListed (old : List V3) (facet : V3) (new : List V3) (place : ℕ) : Type 0 where
  pub more : (new ≡ old) ⊎ (new ≡ old ++ canon facet ∷ [])
  pub there : slice_get new place ≡ Some (canon facet)

-- n is an axis, or the canonical vector of one of the facets
abbrev pub IsAxisOrCanon : List V3 → V3 → Type 0
IsAxisOrCanon facets n = Contains axes n ⊎ IsCanonOf facets n

-- the list with n at its end, unless that is an axis
abbrev pub AddsOther : V3 → List V3 → List V3 → Type 0
AddsOther n old new = (Contains axes n × (new ≡ old)) ⊎ ((Contains axes n → ⊥) × (new ≡ old ++ n ∷ []))

-- the axes, then those of the normals that are no axes, ascending
pub record AreOrdered (listed planes : List V3) : Type 0 where
  pub others : List V3
  pub others_are : Lists vector_cmp (λ n. Contains listed n × (Contains axes n → ⊥)) others
  pub is : planes ≡ axes ++ others

-- the axes, then others ascending
pub record AreAxesFirst (planes : List V3) : Type 0 where
  pub others : List V3
  pub is : planes ≡ axes ++ others
  pub ascending : IsStrictlySortedBy vector_cmp others
