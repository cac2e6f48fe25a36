-- How far pieces reach along the axes and the normals across a direction, and what that shows.
use Rattle.std.specs.Prelude.{◌⊎◌, pos, ℤ, ◌≤ℤ◌, List, [], ◌∷◌, ◌++◌, Any, flat_map}
use Rattle.std.specs.List.{AllZip}
use Rattle.staat_vec.specs.declared.vector.V3.{V3}
use Rattle.staat_vec.specs.declared.vector.TheConstants.{DIRECTION}
use Rattle.staat_vec.specs.Vectors.{IsWithin, negative}
use Rattle.staat_model.specs.declared.assembly.Part.{Part}
use Rattle.staat_model.specs.Walls.{IsShown}
use Rattle.staat_motion.specs.declared.bounds.Bounds.{Bounds}
use Rattle.staat_motion.specs.declared.frame.Frame.{Frame}
use Rattle.staat_motion.specs.declared.shadow.Shadow.{Shadow}
use Rattle.staat_motion.specs.declared.spans.Span.{Span}
use Rattle.staat_motion.specs.Frames.{x_axis, y_axis, z_axis}
use Rattle.staat_motion.specs.Spans.{IsSpan}

-- the normals are no greater than directions can be
pub record AreFrameSizes (frame : Frame) : Type 0 where
  pub x : IsWithin DIRECTION frame.x
  pub y : IsWithin DIRECTION frame.y
  pub z : IsWithin DIRECTION frame.z

-- the spans of points along the axes: their box
pub record IsBounds (points : List V3) (bounds : Bounds) : Type 0 where
  pub x : IsSpan x_axis points bounds.x
  pub y : IsSpan y_axis points bounds.y
  pub z : IsSpan z_axis points bounds.z

-- for each part, in order, the boxes of its pieces, in order
abbrev pub ArePartBounds : List Part → List (List Bounds) → Type 0
ArePartBounds parts bounds = AllZip (λ part. AllZip IsBounds part.pieces) parts bounds

-- the box of points, and their spans along the normals of the frame
pub record IsShadow (frame : Frame) (points : List V3) (shadow : Shadow) : Type 0 where
  pub bounds : IsBounds points shadow.bounds
  pub across_x : IsSpan frame.x points shadow.across_x
  pub across_y : IsSpan frame.y points shadow.across_y
  pub across_z : IsSpan frame.z points shadow.across_z

-- for each part, in order, the shadows of its pieces, in order
abbrev pub ArePartShadows : Frame → List Part → List (List Shadow) → Type 0
ArePartShadows frame parts shadows = AllZip (λ part. AllZip (IsShadow frame) part.pieces) parts shadows

-- of the boxes of any two lists of points the result is that of both together
abbrev pub AreJoinedBounds : Bounds → Bounds → Bounds → Type 0
AreJoinedBounds s t result = (ps qs : List V3) → IsBounds ps s → IsBounds qs t → IsBounds (ps ++ qs) result

-- of the shadows of any two lists of points the result is that of both together
abbrev pub IsJoinedShadow : Shadow → Shadow → Shadow → Type 0
IsJoinedShadow s t result =
    (frame : Frame) (ps qs : List V3) → IsShadow frame ps s → IsShadow frame qs t
    → IsShadow frame (ps ++ qs) result

-- of the shadows of any pieces the whole is that of all their points
abbrev pub IsWholeOf : List Shadow → Shadow → Type 0
IsWholeOf shadows whole =
    (frame : Frame) (pieces : List (List V3)) → AllZip (IsShadow frame) pieces shadows
    → IsShadow frame (flat_map (λ p. p) pieces) whole

-- all points of the pieces of a part
abbrev pub part_points : Part → List V3
part_points part = flat_map (λ p. p) part.pieces

-- for each part, in order, the shadow of all its points
abbrev pub AreWholes : Frame → List Part → List Shadow → Type 0
AreWholes frame parts wholes = AllZip (λ part. IsShadow frame (part_points part)) parts wholes

-- the shadows of pieces, and that of all their points
pub record IsBody (frame : Frame) (pieces : List (List V3)) (shadows : List Shadow) (whole : Shadow) : Type 0 where
  pub each : AllZip (IsShadow frame) pieces shadows
  pub all : IsShadow frame (flat_map (λ p. p) pieces) whole

-- ---- what is seen from the spans

-- of two spans along a normal, the second lies ahead and the direction does not lead ahead along the normal, or the
-- other way round
abbrev pub HasGap : ℤ → Span → Span → Type 0
HasGap along s t = ((along ≤ℤ pos 0) × (s.high ≤ℤ t.low)) ⊎ ((pos 0 ≤ℤ along) × (t.high ≤ℤ s.low))

abbrev pub IsApartOnAxes : V3 → Bounds → Bounds → Type 0
IsApartOnAxes d s t = HasGap d.x s.x t.x ⊎ (HasGap d.y s.y t.y ⊎ HasGap d.z s.z t.z)

abbrev pub IsApartAcross : Shadow → Shadow → Type 0
IsApartAcross s t =
    HasGap (pos 0) s.across_x t.across_x
    ⊎ (HasGap (pos 0) s.across_y t.across_y ⊎ HasGap (pos 0) s.across_z t.across_z)

abbrev pub IsApartAlong : V3 → Shadow → Shadow → Type 0
IsApartAlong d s t = IsApartOnAxes d s.bounds t.bounds ⊎ IsApartAcross s t

-- ---- what that shows

-- the axes and the normals across the direction
abbrev pub normals : Frame → List V3
normals frame = x_axis ∷ y_axis ∷ z_axis ∷ frame.x ∷ frame.y ∷ frame.z ∷ []

-- a wall with this normal, or with its negative, keeps q out of the way of p along d
abbrev pub IsWallEitherWay : List V3 → List V3 → V3 → V3 → Type 0
IsWallEitherWay p q d n = IsShown p q d n ⊎ IsShown p q d (negative n)

-- some wall with one of the normals does
abbrev pub IsSeenApart : Frame → List V3 → List V3 → V3 → Type 0
IsSeenApart frame p q d = Any (IsWallEitherWay p q d) (normals frame)
