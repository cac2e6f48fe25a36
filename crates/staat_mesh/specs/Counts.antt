-- Edges by the numbers of their points, and a table of how many there are.
use Rattle.std.specs.Prelude.{◌≡◌, ◌≢◌, ◌==◌, ◌&&◌, ◌+◌, ◌*◌, ◌<◌, ℕ, Bool, List}
use Rattle.std.specs.Prelude.{length, map, min, take, All}
use Rattle.std.specs.Prelude.{Contains, Some, slice_get, slice_index, count_by}
use Rattle.staat_vec.specs.declared.vector.V3.{V3}
use Rattle.staat_limits.specs.declared.limits.TheConstants.{MOST_POINTS}

-- the number of each vertex whose position is among the points says which point it is
pub record Numbers (points positions : List V3) (numbers : List ℕ) : Type 0 where
  pub each_once : length numbers ≡ length positions
  pub below : All (λ n. n < MOST_POINTS) numbers
  pub at : (vertex : ℕ) (p : V3) → slice_get positions vertex ≡ Some p → Contains points p →
      slice_get points (slice_index numbers vertex) ≡ Some p

-- a face by the numbers of its corners' points
abbrev pub numbered : List ℕ → List ℕ → List ℕ
numbered numbers face = map (slice_index numbers) face

-- whether the edge leads from i to j
unfoldable pub leads : ℕ → ℕ → ℕ × ℕ → Bool
leads i j edge = edge.0 == i && edge.1 == j

-- the place in the table of the edges from i to j
abbrev pub cell : ℕ → ℕ → ℕ
cell i j = i * MOST_POINTS + j

-- the table counts the edges of the list, up to 255
abbrev pub Counts : List ℕ → List (ℕ × ℕ) → Type 0
Counts table edges =
    (i j : ℕ) → i < MOST_POINTS → j < MOST_POINTS → slice_index table (cell i j) ≡ min 255 (count_by
    (leads i j) edges)

-- the edge joins one point with itself, or two points that exactly two edges of the table join
abbrev pub IsPaired : List ℕ → ℕ × ℕ → Type 0
IsPaired table edge =
    edge.0 ≢ edge.1 → slice_index table (cell edge.0 edge.1) + slice_index table (cell edge.1 edge.0) ≡ 2

-- the edge at that place is the first that is not paired
pub record IsFirstUnpaired (table : List ℕ) (edges : List (ℕ × ℕ)) (corner : ℕ) : Type 0 where
  pub from : ℕ
  pub to : ℕ
  pub at : slice_get edges corner ≡ Some (from, to)
  pub apart : from ≢ to
  pub unpaired : slice_index table (cell from to) + slice_index table (cell to from) ≢ 2
  pub before : All (IsPaired table) (take corner edges)
