-- The edges of a mesh.
use Rattle.std.specs.Prelude.{◌≡◌, ◌≢◌, ◌&&◌, ◌||◌, ℕ, Bool, List, [], ◌∷◌, ◌++◌}
use Rattle.std.specs.Prelude.{count_by}
use Rattle.std.specs.List.{zip, flat_map}
use Rattle.std.specs.Ordering.{is_eq}
use Rattle.staat_vec.specs.declared.vector.V3.{V3}
use Rattle.staat_vec.specs.Vectors.{vector_cmp}
use Rattle.staat_mesh.specs.Polygons.{Mesh}

-- the list begun at its second member
abbrev pub rotated : {X : Type 0} → List X → List X
rotated [] = []
rotated (x ∷ xs) = xs ++ x ∷ []

-- the edges of a polygon: from each corner to the next, and from the last to the first
unfoldable pub edges : {X : Type 0} → List X → List (X × X)
edges corners = zip corners (rotated corners)

-- whether two positions are one
abbrev pub is_same : V3 → V3 → Bool
is_same p q = is_eq (vector_cmp p q)

-- whether the edge joins p and q, either way round
unfoldable pub joins : V3 → V3 → V3 × V3 → Bool
joins p q edge = (is_same edge.0 p && is_same edge.1 q) || (is_same edge.0 q && is_same edge.1 p)

-- how many edges of the mesh join p and q
unfoldable pub edge_count : Mesh → V3 → V3 → ℕ
edge_count polygons p q = count_by (joins p q) (flat_map edges polygons)

-- what the edge joins, if it is two positions, is joined by exactly two edges
abbrev pub IsClosed : Mesh → V3 × V3 → Type 0
IsClosed polygons edge = edge.0 ≢ edge.1 → edge_count polygons edge.0 edge.1 ≡ 2
