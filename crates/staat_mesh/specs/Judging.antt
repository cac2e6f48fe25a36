-- What the rules of meshes answer.
use Rattle.std.specs.Prelude.{◌≡◌, ◌≢◌, ℕ, ◌<◌, ◌≤◌, List, length, take, slice_get, All, Some}
use Rattle.std.specs.Prelude.{Result, Ok, Err}
use Rattle.staat_vec.specs.declared.vector.V3.{V3}
use Rattle.staat_vec.specs.Lists.{Lists}
use Rattle.staat_vec.specs.Vectors.{vector_cmp}
use Rattle.staat_limits.specs.declared.limits.TheConstants.{LEAST_POINTS, MOST_POINTS}
use Rattle.staat_model.specs.Pieces.{IsSolid}
use Rattle.staat_mesh.specs.declared.refusal.MeshRefusal.{MeshRefusal}
use Rattle.staat_mesh.specs.declared.refusal.MeshRefusal.TheVariants.{TooFewPoints, TooManyPoints, Flat, BadFace}
use Rattle.staat_mesh.specs.declared.refusal.MeshRefusal.TheVariants.{NotConvex, OpenEdge, OutOfMemory}
use Rattle.staat_mesh.specs.Polygons.{IsUsed, Mesh, Polygon}
use Rattle.staat_mesh.specs.Sides.{InPlane, IsBadFace, IsSupporting, IsCut}
use Rattle.staat_mesh.specs.Edges.{IsClosed, edge_count, edges}

-- the face has P, and all faces before it border the piece
pub record IsFirstFace (points : List V3) (polygons : Mesh) (P : Polygon → Type 0) (face : ℕ) : Type 0 where
  pub polygon : Polygon
  pub at : slice_get polygons face ≡ Some polygon
  pub broken : P polygon
  pub before : All (IsSupporting points) (take face polygons)

-- all edges of the polygon are closed
abbrev pub HasClosedEdges : Mesh → Polygon → Type 0
HasClosedEdges polygons polygon = All (IsClosed polygons) (edges polygon)

-- two positions are not joined by exactly two edges, and the edge of the face at the corner is the first that joins
-- such positions
pub record IsFirstOpen (polygons : Mesh) (face corner : ℕ) : Type 0 where
  pub polygon : Polygon
  pub at : slice_get polygons face ≡ Some polygon
  pub from : V3
  pub to : V3
  pub edge : slice_get (edges polygon) corner ≡ Some (from, to)
  pub apart : from ≢ to
  pub unpaired : edge_count polygons from to ≢ 2
  pub faces_before : All (HasClosedEdges polygons) (take face polygons)
  pub edges_before : All (IsClosed polygons) (take corner (edges polygon))

-- fourth: each edge is closed; then the points are the piece's
abbrev pub JudgesEdges : Mesh → List V3 → Result (List V3) MeshRefusal → Type 0
JudgesEdges polygons points (Ok piece) = All (HasClosedEdges polygons) polygons × (piece ≡ points)
JudgesEdges polygons points (Err (OpenEdge face corner)) = IsFirstOpen polygons face corner
JudgesEdges polygons points (Err refusal) = ⊥

-- third: each face lies in one plane, with all points on one side
abbrev pub JudgesFaces : Mesh → List V3 → Result (List V3) MeshRefusal → Type 0
JudgesFaces polygons points (Err (BadFace face)) = IsFirstFace points polygons IsBadFace face
JudgesFaces polygons points (Err (NotConvex face)) = IsFirstFace points polygons (IsCut points) face
JudgesFaces polygons points answer = All (IsSupporting points) polygons × JudgesEdges polygons points answer

-- second: the points do not lie in one plane
abbrev pub JudgesShape : Mesh → List V3 → Result (List V3) MeshRefusal → Type 0
JudgesShape polygons points (Err Flat) = InPlane points
JudgesShape polygons points answer = IsSolid points × JudgesFaces polygons points answer

-- first: there are as many points as a piece may have
abbrev pub JudgesNumber : Mesh → List V3 → Result (List V3) MeshRefusal → Type 0
JudgesNumber polygons points (Err (TooFewPoints found)) = (length points ≡ found) × (found < LEAST_POINTS)
JudgesNumber polygons points (Err (TooManyPoints found)) = (length points ≡ found) × (MOST_POINTS < found)
JudgesNumber polygons points answer =
    (LEAST_POINTS ≤ length points) × (length points ≤ MOST_POINTS) × JudgesShape polygons points answer

-- what the rules answer for the mesh whose points are the positions that its faces use: the piece, or the first rule
-- that fails
pub record Judges (polygons : Mesh) (answer : Result (List V3) MeshRefusal) : Type 0 where
  pub points : List V3
  pub used : Lists vector_cmp (IsUsed polygons) points
  pub by_rules : JudgesNumber polygons points answer

-- the same, unless memory ran out
abbrev pub AnswersMesh : Mesh → Result (List V3) MeshRefusal → Type 0
AnswersMesh polygons (Err OutOfMemory) = Unit {0}
AnswersMesh polygons answer = Judges polygons answer
