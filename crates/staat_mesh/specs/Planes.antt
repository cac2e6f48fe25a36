-- Planes by a point and a normal.
use Rattle.std.specs.Prelude.{◌≡◌, ◌≢◌, List, Contains}
use Rattle.staat_vec.specs.declared.vector.V3.{V3}
use Rattle.staat_vec.specs.declared.vector.Sign.{Sign}
use Rattle.staat_vec.specs.Vectors.{origin, minus, dot, cross, sign}
use Rattle.staat_mesh.specs.declared.plane.Plane.{Plane}

-- three of the points, not on one line, give the plane
pub record IsSpanned (points : List V3) (plane : Plane) : Type 0 where
  pub b : V3
  pub c : V3
  pub a_in : Contains points plane.through
  pub b_in : Contains points b
  pub c_in : Contains points c
  pub normal : plane.normal ≡ cross (minus b plane.through) (minus c plane.through)
  pub apart : plane.normal ≢ origin

-- the side of p
abbrev pub side_of : Plane → V3 → Sign
side_of plane p = sign (dot plane.normal (minus p plane.through))
