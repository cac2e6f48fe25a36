-- What is known of the points and faces that are read.
use Rattle.std.specs.Prelude.{◌<◌, ◌≤◌, length, All}
use Rattle.staat_vec.specs.declared.vector.TheConstants.{POINT}
use Rattle.staat_vec.specs.Vectors.{IsWithin}
use Rattle.staat_off.specs.declared.raw.Raw.{Raw}
use Rattle.staat_limits.specs.declared.limits.TheConstants.{MOST_COUNT}

-- no point is too far out, and each corner of a face is the number of a point
pub record IsIndexed (raw : Raw) : Type 0 where
  pub within : All (IsWithin POINT) raw.points
  pub corners : All (All (λ corner. corner < length raw.points)) raw.faces

-- no more points, faces and corners of a face than a count can tell
pub record IsCounted (raw : Raw) : Type 0 where
  pub points : length raw.points ≤ MOST_COUNT
  pub faces : length raw.faces ≤ MOST_COUNT
  pub corners : All (λ face. length face ≤ MOST_COUNT) raw.faces

-- each face has a corner
abbrev pub HasCorners : Raw → Type 0
HasCorners raw = All (λ face. 1 ≤ length face) raw.faces
