-- The planes of a set of parts, by their numbers in a table, and their pairs in pair order.
use Rattle.std.specs.Prelude.{◌≡◌, ℕ, ◌+◌, ◌<◌, ◌≤◌, List, ◌++◌, All, Contains}
use Rattle.std.specs.Prelude.{drop, length, map, pos, slice_index, slice_index_or, take}
use Rattle.std.specs.Ordering.{nat_cmp}
use Rattle.std.specs.List.Sorted.{IsStrictlySortedBy}
use Rattle.staat_vec.specs.declared.vector.V3.{V3}
use Rattle.staat_vec.specs.Vectors.{dot, origin}
use Rattle.staat_limits.specs.declared.limits.TheConstants.{MOST_PLANES}
use Rattle.staat_model.specs.Planes.{crossings, vertices}
use Rattle.staat_pairs.specs.Tables.{IsPlaneNormal}
use Rattle.staat_planes.specs.declared.pairs.PlanePairs.{PlanePairs}

-- ---- planes by their numbers

-- the plane of this number
abbrev pub plane_at : List V3 → ℕ → V3
plane_at planes k = slice_index_or planes k origin

-- the planes of these numbers
abbrev pub planes_at : List V3 → List ℕ → List V3
planes_at planes numbers = map (plane_at planes) numbers

-- ascending numbers of planes
pub record AreRisingNumbers (planes : List V3) (numbers : List ℕ) : Type 0 where
  pub ascending : IsStrictlySortedBy nat_cmp numbers
  pub small : (k : ℕ) → Contains numbers k → k < length planes

-- ---- pairs of planes

-- the numbers of the set's planes, which are those in use
abbrev pub numbers_of : PlanePairs → List ℕ
numbers_of p = take p.count p.numbers

-- the pair is one of two planes, the first before the second, or it stands behind the last
pub record IsPlaceIn (planes : List V3) (p : PlanePairs) : Type 0 where
  pub room : length p.numbers ≡ MOST_PLANES
  pub most : p.count ≤ MOST_PLANES
  pub numbers : AreRisingNumbers planes (numbers_of p)
  pub first : p.first ≤ p.count
  pub order : p.first < p.second

-- the first plane of the pair, which is that of its row
abbrev pub row_plane : List V3 → PlanePairs → V3
row_plane planes p = plane_at planes (slice_index (numbers_of p) p.first)

-- the crossings of the rest of the row, from the pair on
abbrev pub rest_of_row : List V3 → PlanePairs → List V3
rest_of_row planes p = crossings (row_plane planes p) (planes_at planes (drop p.second (numbers_of p)))

-- the vertices from the pair on: those of the rest of its row, then those of the later rows
abbrev pub vertices_left : List V3 → PlanePairs → List V3
vertices_left planes p =
    rest_of_row planes p ++ vertices (planes_at planes (drop (p.first + 1) (numbers_of p)))

-- g is the plane of the row, which has pairs left, and their crossings lie on it
pub record IsRowOf (planes : List V3) (p : PlanePairs) (g : V3) : Type 0 where
  pub plane : IsPlaneNormal g
  pub is : row_plane planes p ≡ g
  pub some : p.second < p.count
  pub on : All (λ d. dot g d ≡ pos 0)
      (crossings g (planes_at planes (drop p.second (numbers_of p))))

-- what p has left is the rest of its row, and then what q has left
abbrev pub HasRowBefore : List V3 → PlanePairs → PlanePairs → Type 0
HasRowBefore planes p q = vertices_left planes p ≡ rest_of_row planes p ++ vertices_left planes q
