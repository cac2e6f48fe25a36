-- Cones of vectors: what the members of a list add up to, and what has all of them on one side.
use Rattle.std.specs.Prelude.{◌≡◌, ◌≢◌, ℕ, ◌≤◌, ◌⊎◌, pos, ◌≤ℤ◌, ◌<ℤ◌, List, []}
use Rattle.std.specs.Prelude.{◌∷◌, ◌++◌, map, length, All, Contains}
use Rattle.staat_vec.specs.declared.vector.V3.{V3}
use Rattle.staat_vec.specs.Vectors.{vector, origin, dot, cross, minus, times, negative}
use Rattle.staat_vec.specs.Primitives.{IsPrimitive, primitive}
use Rattle.staat_model.specs.Meeting.{AreWeights, mix}

-- each point of qs less each point of ps
abbrev pub differences : List V3 → List V3 → List V3
differences [] qs = []
differences (p ∷ ps) qs = map (λ q. minus q p) qs ++ differences ps qs

-- each member lies on n's positive side, or across n
abbrev pub IsAbove : V3 → List V3 → Type 0
IsAbove n vs = All (λ v. pos 0 ≤ℤ dot v n) vs

-- the members do not all lie in one plane through zero
abbrev pub IsSpanning : List V3 → Type 0
IsSpanning vs = (n : V3) → All (λ v. dot v n ≡ pos 0) vs → n ≡ origin

-- one of the two holds, and not both
abbrev pub ExactlyOne : Type 0 → Type 0 → Type 0
ExactlyOne A B = (A ⊎ B) × (A → B → ⊥)

-- a positive multiple of h is the sum of each member times a number of at least 0
pub record IsCombined (vs : List V3) (h : V3) : Type 0 where
  pub k : ℕ
  pub positive : 1 ≤ k
  pub numbers : List ℕ
  pub one_each : length numbers ≡ length vs
  pub is : mix numbers vs ≡ times k h

-- the axis or its negative stands in the list
abbrev pub HasEither : List V3 → V3 → Type 0
HasEither vs axis = Contains vs axis ⊎ Contains vs (negative axis)

-- each of the three axes does, or its negative
pub record HasAxes (vs : List V3) : Type 0 where
  pub x : HasEither vs (vector (pos 1) (pos 0) (pos 0))
  pub y : HasEither vs (vector (pos 0) (pos 1) (pos 0))
  pub z : HasEither vs (vector (pos 0) (pos 0) (pos 1))

-- v is the primitive vector of the cross product of two members that are not parallel
pub record IsCrossing (vs : List V3) (v : V3) : Type 0 where
  pub g : V3
  pub h : V3
  pub g_in : Contains vs g
  pub h_in : Contains vs h
  pub independent : cross g h ≢ origin
  pub is : v ≡ primitive (cross g h)

-- a vertex of the cone of the conditions that the members give: the planes of two meet in it, and it keeps them all
pub record HasCorner (vs : List V3) : Type 0 where
  pub v : V3
  pub crossing : IsCrossing vs v
  pub above : IsAbove v vs

-- n is at right angles to two members that are not parallel
pub record IsAcrossTwo (vs : List V3) (n : V3) : Type 0 where
  pub u : V3
  pub v : V3
  pub u_in : Contains vs u
  pub v_in : Contains vs v
  pub independent : cross u v ≢ origin
  pub u_on : dot u n ≡ pos 0
  pub v_on : dot v n ≡ pos 0

-- a facet of the cone that the members span, by its primitive normal
pub record IsConeFacet (vs : List V3) (n : V3) : Type 0 where
  pub primitive : IsPrimitive n
  pub above : IsAbove n vs
  pub across : IsAcrossTwo vs n

-- the sum of each member times a number of at least 1 is a multiple of d: d leads into the cone
pub record IsReached (vs : List V3) (d : V3) : Type 0 where
  pub weights : List ℕ
  pub are_weights : AreWeights weights vs
  pub t : ℕ
  pub is : mix weights vs ≡ times t d

-- d does not lead ahead of some facet
pub record IsStopped (vs : List V3) (d : V3) : Type 0 where
  pub n : V3
  pub facet : IsConeFacet vs n
  pub away : dot n d ≤ℤ pos 0

-- z lies on the plane of the member g, and strictly on the positive side of each member that is not parallel to g
pub record IsOnBorder (vs : List V3) (g z : V3) : Type 0 where
  pub g_in : Contains vs g
  pub on : dot g z ≡ pos 0
  pub inside : All (λ v. (cross v g ≡ origin) ⊎ (pos 0 <ℤ dot v z)) vs

-- two walls of the cone of the conditions, with a direction on each that lies strictly inside the other
pub record HasTwoBorders (vs : List V3) : Type 0 where
  pub g : V3
  pub h : V3
  pub y : V3
  pub z : V3
  pub y_on : IsOnBorder vs g y
  pub z_on : IsOnBorder vs h z
  pub y_inside : pos 0 <ℤ dot h y
  pub z_inside : pos 0 <ℤ dot g z
