-- Marks on nodes, and ways between nodes.
use Rattle.std.specs.Prelude.{◌≡◌, ℕ, ◌<◌, Bool, true, false, List, Contains, All, count_by, slice_index_or}
use Rattle.staat_holds.specs.declared.ways.Way.{Way}
use Rattle.staat_holds.specs.Reaching.{Reaches}

-- one of the ways leads from x to y
abbrev pub HasWay : List Way → ℕ → ℕ → Type 0
HasWay ways x y = Contains ways (record { from = x; to = y })

-- the way turned round
abbrev pub turned_way : Way → Way
turned_way way = record { from = way.to; to = way.from }

-- both ends are among the first nodes, so many
pub record IsWayWithin (count : ℕ) (way : Way) : Type 0 where
  pub from : way.from < count
  pub to : way.to < count

-- the node is visited
abbrev pub IsVisited : List Bool → ℕ → Type 0
IsVisited marks k = slice_index_or marks k false ≡ true

-- how many are visited
abbrev pub visited_count : List Bool → ℕ
visited_count marks = count_by (λ m. m) marks

-- ways lead from x to each node that is visited
abbrev pub ReachesVisited : List Way → ℕ → List Bool → Type 0
ReachesVisited ways x marks = (k : ℕ) → IsVisited marks k → Reaches (HasWay ways) x k

-- no way leads from a node that is visited to one that is not
abbrev pub AreShut : List Way → List Bool → Type 0
AreShut ways marks = All (λ way. IsVisited marks way.from → IsVisited marks way.to) ways

-- each that was visited is visited still
abbrev pub KeepsVisited : List Bool → List Bool → Type 0
KeepsVisited old new = (k : ℕ) → IsVisited old k → IsVisited new k
