-- What points, boxes and prisms make: pieces, and parts of them.
use Rattle.std.specs.Prelude.{◌≡◌, ℤ, pos, List, [], ◌∷◌, Any, Contains, Option, MatchOption}
use Rattle.std.specs.List.{AllZip}
use Rattle.staat_vec.specs.declared.vector.V3.{V3}
use Rattle.staat_vec.specs.Lists.{Lists}
use Rattle.staat_vec.specs.Vectors.{vector, vector_cmp}
use Rattle.staat_model.specs.declared.assembly.Part.{Part}
use Rattle.staat_model.specs.Pieces.{IsPiece}

-- the hull of the points is a piece: it is these points, ascending and each once
pub record IsHull (points hull : List V3) : Type 0 where
  pub lists : Lists vector_cmp (Contains points) hull
  pub piece : IsPiece hull

abbrev pub HasNoHull : List V3 → Type 0
HasNoHull points = (hull : List V3) → IsHull points hull → ⊥

-- the piece of the points, or none where they make none
abbrev pub IsHullAnswer : List V3 → Option (List V3) → Type 0
IsHullAnswer points answer = MatchOption answer (HasNoHull points) (IsHull points)

-- the points of the box between two corners
abbrev pub box_corners : V3 → V3 → List V3
box_corners low high =
    low ∷
    vector low.x low.y high.z ∷
    vector low.x high.y low.z ∷
    vector low.x high.y high.z ∷
    vector high.x low.y low.z ∷
    vector high.x low.y high.z ∷
    vector high.x high.y low.z ∷
    high ∷ []

-- the points of the prism over a base of (x, z), with y from 0 to 4
abbrev pub prism_corners : List (ℤ × ℤ) → List V3
prism_corners [] = []
prism_corners (corner ∷ base) =
    vector corner.0 (pos 0) corner.1 ∷ vector corner.0 (pos 4) corner.1 ∷ prism_corners base

-- the part without a name whose pieces are the hulls of these points, one for one
pub record IsUnion (bodies : List (List V3)) (part : Part) : Type 0 where
  pub name : part.name ≡ []
  pub pieces : AllZip IsHull bodies part.pieces

-- the part, or none where some of the bodies are no piece
abbrev pub IsUnionAnswer : List (List V3) → Option Part → Type 0
IsUnionAnswer bodies answer = MatchOption answer (Any HasNoHull bodies) (IsUnion bodies)
