-- Scans around a vector: the members of a list that lie furthest to either side of it, and the walls through it.
use Rattle.std.specs.Prelude.{◌≡◌, ◌≢◌, ◌⊎◌, pos, ◌<ℤ◌, List, Contains}
use Rattle.staat_vec.specs.declared.vector.V3.{V3}
use Rattle.staat_vec.specs.Vectors.{cross, det, dot, negative, origin}
use Rattle.staat_model.specs.Cones.{IsAbove}

-- x is not parallel to v
abbrev pub IsApart : V3 → V3 → Type 0
IsApart v x = cross x v ≢ origin

-- x lies on the plane of n, left of v as seen from the tip of n; right of v is left of its negative
pub record IsLeftOf (n v x : V3) : Type 0 where
  pub on : dot x n ≡ pos 0
  pub side : pos 0 <ℤ det n v x

-- the plane of n goes through v and has all of vs on its positive side
pub record IsWallThrough (vs : List V3) (v n : V3) : Type 0 where
  pub above : IsAbove n vs
  pub on : dot v n ≡ pos 0

-- on each wall through v that does not have first to the right of v, neither lies a there, and a lies left of v where
-- any of seen does
abbrev pub IsLeftmost : List V3 → List V3 → V3 → V3 → V3 → Type 0
IsLeftmost vs seen v first a =
    (n : V3) → n ≢ origin → IsWallThrough vs v n → (IsLeftOf n (negative v) first → ⊥) →
    (IsLeftOf n (negative v) a → ⊥) × ((x : V3) → Contains seen x → IsLeftOf n v x → IsLeftOf n v a)

-- a and b are members that are not parallel to v, and each wall through v and such a member goes through one of them
pub record AreFurthest (vs : List V3) (v a b : V3) : Type 0 where
  pub a_in : Contains vs a
  pub a_apart : IsApart v a
  pub b_in : Contains vs b
  pub b_apart : IsApart v b
  pub on_one : (n w : V3) → IsWallThrough vs v n → Contains vs w → IsApart v w → dot w n ≡ pos 0 →
      (dot a n ≡ pos 0) ⊎ (dot b n ≡ pos 0)
