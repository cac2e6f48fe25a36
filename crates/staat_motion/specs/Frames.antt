-- The normals across a direction.
use Rattle.std.specs.Prelude.{◌≡◌, ◌≢◌, ◌⊎◌, pos}
use Rattle.staat_vec.specs.declared.vector.V3.{V3}
use Rattle.staat_vec.specs.Vectors.{cross, origin, vector}
use Rattle.staat_motion.specs.declared.frame.Frame.{Frame}

abbrev pub x_axis : V3
x_axis = vector (pos 1) (pos 0) (pos 0)

abbrev pub y_axis : V3
y_axis = vector (pos 0) (pos 1) (pos 0)

abbrev pub z_axis : V3
z_axis = vector (pos 0) (pos 0) (pos 1)

-- the result is n, or the other vector where n is zero
abbrev pub IsOr : V3 → V3 → V3 → Type 0
IsOr n other result = ((n ≢ origin) × (result ≡ n)) ⊎ ((n ≡ origin) × (result ≡ other))

-- for each axis its cross product with d, and the next axis where that is zero
pub record IsFrame (d : V3) (frame : Frame) : Type 0 where
  pub x : IsOr (cross x_axis d) y_axis frame.x
  pub y : IsOr (cross y_axis d) z_axis frame.y
  pub z : IsOr (cross z_axis d) x_axis frame.z
