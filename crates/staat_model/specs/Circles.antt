-- The circle in which a plane cuts the directions, as the list of the vertices on it in the turning sense about its
-- normal.
use Rattle.std.specs.Prelude.{◌≡◌, ◌≢◌, ◌⊎◌, ℕ, zero, suc, ◌+◌, ◌%◌, pos, ◌<ℤ◌, List}
use Rattle.std.specs.Prelude.{map, length, All, Contains}
use Rattle.std.specs.Prelude.{slice_get, Some}
use Rattle.std.specs.Ordering.{nat_cmp}
use Rattle.staat_vec.specs.declared.vector.V3.{V3}
use Rattle.staat_vec.specs.Vectors.{cross, dot, negative}
use Rattle.staat_vec.specs.Primitives.{primitive}
use Rattle.staat_vec.specs.Lists.{Lists, ListsOnce}

-- a vertex on a circle, with the numbers of the other planes through it
pub record Stop : Type 0 where
  pub vertex : V3
  pub through : List ℕ

-- plane number k of the table has the normal g, and is among the linked planes
pub record IsLinked (table : List V3) (linked : List ℕ) (k : ℕ) (g : V3) : Type 0 where
  pub listed : Contains linked k
  pub is : slice_get table k ≡ Some g

-- the least axis other than plane c: the axes are the planes 0, 1 and 2
abbrev pub axis_beside : ℕ → ℕ
axis_beside zero = 1
axis_beside (suc c) = 0

-- the plane c, of normal g, and another linked plane cross at v
pub record IsOnCircle (table : List V3) (linked : List ℕ) (c : ℕ) (g v : V3) : Type 0 where
  pub other : ℕ
  pub h : V3
  pub other_is : IsLinked table linked other h
  pub different : other ≢ c
  pub is : (v ≡ primitive (cross g h)) ⊎ (v ≡ negative (primitive (cross g h)))

-- k is the number of a linked plane other than c that passes through v
pub record PassesThrough (table : List V3) (linked : List ℕ) (c : ℕ) (v : V3) (k : ℕ) : Type 0 where
  pub h : V3
  pub linked_is : IsLinked table linked k h
  pub different : k ≢ c
  pub on : dot h v ≡ pos 0

-- w lies less than a half turn after v, when one turns about g
abbrev pub IsAfter : V3 → V3 → V3 → Type 0
IsAfter g v w = pos 0 <ℤ dot (cross v w) g

-- w is the next vertex after v
pub record IsNext (g : V3) (stops : List Stop) (v w : V3) : Type 0 where
  pub after : IsAfter g v w
  pub nothing_between : All (λ s. IsAfter g v s.vertex → IsAfter g s.vertex w → ⊥) stops

-- the circle of plane c among the linked planes: each vertex on it once, from the crossing with the least axis on,
-- around and back, and with each the other linked planes through it
pub record IsCircle (table : List V3) (linked : List ℕ) (c : ℕ) (stops : List Stop) : Type 0 where
  pub g : V3
  pub g_is : IsLinked table linked c g
  pub vertices : ListsOnce (IsOnCircle table linked c g) (map (λ s. s.vertex) stops)
  pub axis : V3
  pub axis_is : IsLinked table linked (axis_beside c) axis
  pub first : Stop
  pub first_is : slice_get stops 0 ≡ Some first
  pub start : first.vertex ≡ primitive (cross g axis)
  pub turns : (k : ℕ) (s t : Stop) → slice_get stops k ≡ Some s
      → slice_get stops ((k + 1) % length stops) ≡ Some t
      → IsNext g stops s.vertex t.vertex
  pub through : All (λ s. Lists nat_cmp (PassesThrough table linked c s.vertex) s.through) stops
