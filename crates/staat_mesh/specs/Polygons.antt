-- A mesh by the positions of its corners: what the rules of meshes speak of.
use Rattle.std.specs.Prelude.{ℕ, List, map, Any, Contains, slice_get}
use Rattle.std.specs.List.{filter_map}
use Rattle.staat_vec.specs.declared.vector.V3.{V3}
use Rattle.staat_off.specs.declared.raw.Raw.{Raw}

-- a face by the positions of its corners, in order
abbrev pub Polygon : Type 0
Polygon = List V3

-- the faces, in order
abbrev pub Mesh : Type 0
Mesh = List Polygon

-- the polygon whose corners are these vertices
abbrev pub polygon : List V3 → List ℕ → Polygon
polygon positions face = filter_map (slice_get positions) face

-- the mesh of the vertices and faces of a file
abbrev pub mesh : Raw → Mesh
mesh raw = map (polygon raw.points) raw.faces

-- some face has a corner there
abbrev pub IsUsed : Mesh → V3 → Type 0
IsUsed polygons p = Any (λ polygon. Contains polygon p) polygons
