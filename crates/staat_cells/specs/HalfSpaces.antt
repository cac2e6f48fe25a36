-- Half-spaces that planes bound, by the numbers of the planes.
use Rattle.std.specs.Prelude.{◌≡◌, ◌↔◌, ℕ, List, All, Contains, Some, slice_get, slice_index_or}
use Rattle.staat_vec.specs.declared.vector.V3.{V3}
use Rattle.staat_vec.specs.declared.vector.Sign.{Sign}
use Rattle.staat_vec.specs.declared.vector.Sign.TheVariants.{Zero}
use Rattle.staat_vec.specs.Primitives.{canon}
use Rattle.staat_vec.specs.Vectors.{dot, sign}
use Rattle.staat_cells.specs.declared.half_spaces.HalfSpace.{HalfSpace}

-- the sign of plane k, and zero where there is none
abbrev pub sign_at : List Sign → ℕ → Sign
sign_at signs k = slice_index_or signs k Zero

-- directions with these signs are in the half-space
abbrev pub IsInHalfSpace : List Sign → HalfSpace → Type 0
IsInHalfSpace signs s = sign_at signs s.plane ≡ s.sign

-- directions with these signs are in each of the half-spaces
abbrev pub AreInside : List Sign → List HalfSpace → Type 0
AreInside signs cone = All (IsInHalfSpace signs) cone

-- each half-space of one cone is one of the other
abbrev pub AreAmong : List HalfSpace → List HalfSpace → Type 0
AreAmong cone other = All (Contains other) cone

-- directions with these signs are ahead of the facet n: at the plane of n they have the sign that n has there itself
pub record IsSignAhead (planes : List V3) (signs : List Sign) (n : V3) : Type 0 where
  pub plane : ℕ
  pub at : slice_get planes plane ≡ Some (canon n)
  pub same : sign_at signs plane ≡ sign (dot (canon n) n)

-- the directions ahead of all the facets are those in the cone
abbrev pub AreAhead : List V3 → List V3 → List HalfSpace → Type 0
AreAhead planes facets cone = (signs : List Sign) → AreInside signs cone ↔ All (IsSignAhead planes signs) facets
