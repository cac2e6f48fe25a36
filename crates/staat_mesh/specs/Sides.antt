-- How a face lies to the points of its piece.
use Rattle.std.specs.Prelude.{◌≡◌, ◌≢◌, ◌<◌, ◌⊎◌, pos, List, length, All, Contains}
use Rattle.staat_vec.specs.declared.vector.V3.{V3}
use Rattle.staat_vec.specs.declared.vector.Sign.{Sign}
use Rattle.staat_vec.specs.declared.vector.Sign.TheVariants.{Neg, Zero, Pos}
use Rattle.staat_vec.specs.Lists.{Lists}
use Rattle.staat_vec.specs.Vectors.{origin, minus, cross, det, sign, vector_cmp}
use Rattle.staat_model.specs.Pieces.{IsSolid}
use Rattle.staat_mesh.specs.Polygons.{Polygon}

-- any three of the positions lie on one line
abbrev pub OnLine : List V3 → Type 0
OnLine positions =
    (a b c : V3) → Contains positions a → Contains positions b → Contains positions c →
    cross (minus b a) (minus c a) ≡ origin

-- any four of the positions lie in one plane
abbrev pub InPlane : List V3 → Type 0
InPlane positions =
    (a b c e : V3) →
    Contains positions a → Contains positions b → Contains positions c → Contains positions e →
    det (minus b a) (minus c a) (minus e a) ≡ pos 0

-- the corners have fewer than three positions, or lie on one line, or do not lie in one plane
pub data IsBadFace (polygon : Polygon) : Type 0 where
  few : (positions : List V3) → Lists vector_cmp (Contains polygon) positions → length positions < 3 →
      IsBadFace polygon
  on_line : OnLine polygon → IsBadFace polygon
  off_plane : IsSolid polygon → IsBadFace polygon

-- the side of p on the plane of a, b and c
abbrev pub side : V3 → V3 → V3 → V3 → Sign
side a b c p = sign (det (minus b a) (minus c a) (minus p a))

-- three corners that are not on one line; the polygon lies in their plane
pub record LiesInPlane (polygon : Polygon) (a b c : V3) : Type 0 where
  pub a_in : Contains polygon a
  pub b_in : Contains polygon b
  pub c_in : Contains polygon c
  pub apart : cross (minus b a) (minus c a) ≢ origin
  pub flat : All (λ p. side a b c p ≡ Zero) polygon

-- the polygon lies in a plane, and points lie strictly on both sides of it
pub record IsCut (points : List V3) (polygon : Polygon) : Type 0 where
  pub a : V3
  pub b : V3
  pub c : V3
  pub plane : LiesInPlane polygon a b c
  pub ahead : V3
  pub behind : V3
  pub ahead_in : Contains points ahead
  pub behind_in : Contains points behind
  pub ahead_side : side a b c ahead ≡ Pos
  pub behind_side : side a b c behind ≡ Neg

-- the polygon lies in a plane, and no points lie on one of its sides
pub record IsSupporting (points : List V3) (polygon : Polygon) : Type 0 where
  pub a : V3
  pub b : V3
  pub c : V3
  pub plane : LiesInPlane polygon a b c
  pub one_side : All (λ p. side a b c p ≢ Pos) points ⊎ All (λ p. side a b c p ≢ Neg) points
