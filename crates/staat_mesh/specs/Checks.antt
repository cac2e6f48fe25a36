-- What the checks of points, faces and edges answer.
use Rattle.std.specs.Prelude.{◌≡◌, ◌<◌, ◌≤◌, List, length, All, Result, Ok, Err}
use Rattle.staat_vec.specs.declared.vector.V3.{V3}
use Rattle.staat_limits.specs.declared.limits.TheConstants.{LEAST_POINTS, MOST_POINTS}
use Rattle.staat_model.specs.Pieces.{IsSolid}
use Rattle.staat_mesh.specs.declared.refusal.MeshRefusal.{MeshRefusal}
use Rattle.staat_mesh.specs.declared.refusal.MeshRefusal.TheVariants.{TooFewPoints, TooManyPoints, Flat, OutOfMemory}
use Rattle.staat_mesh.specs.Polygons.{Mesh}
use Rattle.staat_mesh.specs.Sides.{InPlane, IsSupporting}
use Rattle.staat_mesh.specs.Judging.{HasClosedEdges, JudgesEdges, JudgesFaces}

-- there are as many points as a piece may have, and they do not lie in one plane, or the refusal of the first rule
-- that fails
abbrev pub ChecksPoints : {X : Type 0} → List V3 → Result X MeshRefusal → Type 0
ChecksPoints points (Ok done) = (LEAST_POINTS ≤ length points) × (length points ≤ MOST_POINTS) × IsSolid points
ChecksPoints points (Err (TooFewPoints found)) = (length points ≡ found) × (found < LEAST_POINTS)
ChecksPoints points (Err (TooManyPoints found)) = (length points ≡ found) × (MOST_POINTS < found)
ChecksPoints points (Err Flat) = (LEAST_POINTS ≤ length points) × (length points ≤ MOST_POINTS) × InPlane points
ChecksPoints points (Err refusal) = ⊥

-- all faces border the piece, or the refusal of the first that does not
abbrev pub ChecksFaces : {X : Type 0} → Mesh → List V3 → Result X MeshRefusal → Type 0
ChecksFaces polygons points (Ok done) = All (IsSupporting points) polygons
ChecksFaces polygons points (Err OutOfMemory) = Unit {0}
ChecksFaces polygons points (Err refusal) = JudgesFaces polygons points (Err refusal)

-- all edges are closed, or the refusal of the first that is not
abbrev pub ChecksEdges : {X : Type 0} → Mesh → List V3 → Result X MeshRefusal → Type 0
ChecksEdges polygons points (Ok done) = All (HasClosedEdges polygons) polygons
ChecksEdges polygons points (Err OutOfMemory) = Unit {0}
ChecksEdges polygons points (Err refusal) = JudgesEdges polygons points (Err refusal)
