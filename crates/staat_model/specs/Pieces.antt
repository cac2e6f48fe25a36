-- Convex pieces, by the points whose hull they are.
use Rattle.std.specs.Prelude.{◌≢◌, ◌≤◌, pos, List, length, All, Contains}
use Rattle.std.specs.List.Sorted.{IsStrictlySortedBy}
use Rattle.staat_vec.specs.declared.vector.V3.{V3}
use Rattle.staat_vec.specs.declared.vector.TheConstants.{POINT}
use Rattle.staat_limits.specs.declared.limits.TheConstants.{LEAST_POINTS, MOST_POINTS}
use Rattle.staat_vec.specs.Vectors.{IsWithin, det, minus, vector_cmp}

-- four of the points do not lie in one plane
pub record IsSolid (points : List V3) : Type 0 where
  pub a : V3
  pub b : V3
  pub c : V3
  pub e : V3
  pub a_in : Contains points a
  pub b_in : Contains points b
  pub c_in : Contains points c
  pub e_in : Contains points e
  pub apart : det (minus b a) (minus c a) (minus e a) ≢ pos 0

-- 4 to 64 different points in ascending order, none too far out, and not all in one plane
pub record IsPiece (points : List V3) : Type 0 where
  pub ascending : IsStrictlySortedBy vector_cmp points
  pub at_least : LEAST_POINTS ≤ length points
  pub at_most : length points ≤ MOST_POINTS
  pub within : All (IsWithin POINT) points
  pub solid : IsSolid points
