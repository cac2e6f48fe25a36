-- The boxes round parts.
use Rattle.std.specs.Prelude.{ℤ, pos, ◌≤ℤ◌, List, [], ◌∷◌, map, flat_map, Contains, ℕ, slice_get}
use Rattle.std.specs.Prelude.{option_map, unwrap_or}
use Rattle.std.specs.Int.{int_max, int_min}
use Rattle.std.specs.List.{fold}
use Rattle.staat_vec.specs.declared.vector.V3.{V3}
use Rattle.staat_vec.specs.Vectors.{vector}
use Rattle.staat_model.specs.declared.assembly.Part.{Part}
use Rattle.staat_explode.specs.declared.axis.Axis.{Axis}
use Rattle.staat_explode.specs.declared.axis.Axis.TheVariants.{X, Y, Z}
use Rattle.staat_explode.specs.declared.boxes.Bounds.{Bounds}
use Rattle.staat_explode.specs.declared.boxes.End.{End}
use Rattle.staat_explode.specs.declared.boxes.End.TheVariants.{High, Low}

-- a component of a vector
abbrev pub component : Axis → V3 → ℤ
component X v = v.x
component Y v = v.y
component Z v = v.z

-- all points of the pieces of a part
abbrev pub points_of : Part → List V3
points_of part = flat_map (λ piece. piece) part.pieces

-- of two numbers the one that lies further to the end
abbrev pub further : End → ℤ → ℤ → ℤ
further Low = int_min
further High = int_max

-- of a list of numbers the one that lies furthest to the end, where the list is not empty
abbrev pub furthest : End → List ℤ → ℤ
furthest end [] = pos 0
furthest end (z ∷ zs) = fold (further end) z zs

-- the vector of the numbers that f gives for the components
abbrev pub by_component : (Axis → ℤ) → V3
by_component f = vector (f X) (f Y) (f Z)

-- the box of points has as its least and greatest number in each component those of all the points
unfoldable pub box_of : List V3 → Bounds
box_of points = record {
  low = by_component (λ axis. furthest Low (map (component axis) points));
  high = by_component (λ axis. furthest High (map (component axis) points));
}

-- the boxes of the parts
abbrev pub boxes_of : List Part → List Bounds
boxes_of parts = map (λ part. box_of (points_of part)) parts

-- the box of one point
abbrev pub around : V3 → Bounds
around p = record { low = p; high = p }

-- the corner with the number that lies further to the end in each component
abbrev pub corner : End → V3 → V3 → V3
corner end a b = vector (further end a.x b.x) (further end a.y b.y) (further end a.z b.z)

-- the box that covers a box and a point
abbrev pub covering : Bounds → V3 → Bounds
covering b p = record { low = corner Low b.low p; high = corner High b.high p }

-- the pieces of part a, and none where there is no such part
abbrev pub pieces_of_part : List Part → ℕ → List (List V3)
pieces_of_part parts a = unwrap_or (option_map (λ part. part.pieces) (slice_get parts a)) []

-- the points of the pieces of part a
abbrev pub points_at : List Part → ℕ → List V3
points_at parts a = flat_map (λ piece. piece) (pieces_of_part parts a)

-- in each component, no point has a number below or above those of the box, and some points have just these
pub record IsBoxOf (points : List V3) (b : Bounds) : Type 0 where
  pub low : (axis : Axis) (p : V3) → Contains points p → component axis b.low ≤ℤ component axis p
  pub high : (axis : Axis) (p : V3) → Contains points p → component axis p ≤ℤ component axis b.high
  pub lowest : (axis : Axis) → Contains (map (component axis) points) (component axis b.low)
  pub highest : (axis : Axis) → Contains (map (component axis) points) (component axis b.high)
