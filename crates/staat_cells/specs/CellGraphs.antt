-- The blocking graph of a cell: its arcs at every direction with the signs of the cell.
use Rattle.std.specs.Prelude.{◌≡◌, ◌↔◌, ◌⊎◌, ◌+◌, ◌-◌, ◌/◌, ◌%◌, ◌<◌, ℕ, List, All, Any, length, slice_index_or}
use Rattle.staat_vec.specs.declared.vector.Sign.{Sign}
use Rattle.staat_graph.specs.Graphs.{HasArc}
use Rattle.staat_pairs.specs.Searches.{arc_of}
use Rattle.staat_pairs.specs.Tables.{IsTable, IsTableArc, Table, facets_of}
use Rattle.staat_cells.specs.declared.batches.Batch.{Batch}
use Rattle.staat_cells.specs.declared.half_spaces.HalfSpace.{HalfSpace}
use Rattle.staat_cells.specs.declared.joined_batches.JoinedBatch.{JoinedBatch}
use Rattle.staat_cells.specs.Batches.{IsBatch, IsBatchArc, IsJoinedArc}
use Rattle.staat_cells.specs.HalfSpaces.{AreInside, IsSignAhead}

-- directions with these signs lead ahead of all facets of piece i of the part a against some piece of the part b
pub record IsPieceAhead (t : Table) (a b i : ℕ) (signs : List Sign) : Type 0 where
  pub j : ℕ
  pub across : IsTableArc t (arc_of a i b j)
  pub ahead : All (IsSignAhead t.planes signs) (facets_of t (arc_of a i b j))

-- of some piece of the part a against some piece of the part b
pub record IsAheadBy (t : Table) (signs : List Sign) (a b : ℕ) : Type 0 where
  pub i : ℕ
  pub j : ℕ
  pub across : IsTableArc t (arc_of a i b j)
  pub ahead : All (IsSignAhead t.planes signs) (facets_of t (arc_of a i b j))

-- the rows have the arcs of the table by these signs, which are those at every direction with these signs
abbrev pub IsCellGraph : Table → List Sign → List ℕ → Type 0
IsCellGraph t signs rows = (a b : ℕ) → HasArc rows a b ↔ IsAheadBy t signs a b

-- directions with these signs lead ahead of some two pieces of the parts a and b
abbrev pub IsArcAt : List JoinedBatch → List Sign → ℕ → ℕ → Type 0
IsArcAt batches signs a b = Any (λ batch. IsJoinedArc batch signs a b) batches

-- the batches tell the arcs that the table has by any signs
pub record HasArcsOf (t : Table) (batches : List JoinedBatch) : Type 0 where
  pub rules : IsTable t
  pub arcs : (signs : List Sign) (a b : ℕ) → IsArcAt batches signs a b ↔ IsAheadBy t signs a b

-- ---- while the cones and the arcs are listed

-- the same of batches whose tests are not joined
abbrev pub IsListedArc : List Batch → List Sign → ℕ → ℕ → Type 0
IsListedArc batches signs a b = Any (λ batch. IsBatchArc batch signs a b) batches

abbrev pub ListsArcsOf : Table → List Batch → Type 0
ListsArcsOf t batches = (signs : List Sign) (a b : ℕ) → IsListedArc batches signs a b ↔ IsAheadBy t signs a b

-- the list has grown by cones of the directions whose signs have P
abbrev pub AddsCones : (List Sign → Type 0) → List (List HalfSpace) → List (List HalfSpace) → Type 0
AddsCones P old new = (signs : List Sign) → Any (AreInside signs) new ↔ (Any (AreInside signs) old ⊎ P signs)

-- the last batch has room for a cone, and no arc has come
pub record HasConeRoom (old new : List Batch) : Type 0 where
  pub some : 0 < length new
  pub room : (d : Batch) → length (slice_index_or new (length new - 1) d).cones.items < 128
  pub arcs : (signs : List Sign) (x y : ℕ) → IsListedArc new signs x y ↔ IsListedArc old signs x y
  pub batches : All IsBatch new

-- the batches have grown by what has the arcs of P
pub record AddsArcs (P : List Sign → ℕ → ℕ → Type 0) (old new : List Batch) : Type 0 where
  pub arcs : (signs : List Sign) (a b : ℕ)
      → IsListedArc new signs a b ↔ (IsListedArc old signs a b ⊎ P signs a b)
  pub batches : All IsBatch new

-- the arc from a to b, where directions with these signs are in the cone
abbrev pub IsArcInside : (a b : ℕ) → List Sign → ℕ → ℕ → List HalfSpace → Type 0
IsArcInside a b signs x y cone = (x ≡ a) × (y ≡ b) × AreInside signs cone

-- the batches have grown by a cone of the parts a and b
abbrev pub AddsCone : List HalfSpace → ℕ → ℕ → List Batch → List Batch → Type 0
AddsCone cone a b old new = AddsArcs (λ signs x y. IsArcInside a b signs x y cone) old new

-- by cones of the parts a and b
abbrev pub AddsConesOf : List (List HalfSpace) → ℕ → ℕ → List Batch → List Batch → Type 0
AddsConesOf cones a b old new = AddsArcs (λ signs x y. Any (IsArcInside a b signs x y) cones) old new

-- these signs lead ahead of piece i of a and piece j of b
abbrev pub IsPairAhead : Table → ℕ → ℕ → ℕ → ℕ → List Sign → Type 0
IsPairAhead t a i b j signs =
    IsTableArc t (arc_of a i b j) × All (IsSignAhead t.planes signs) (facets_of t (arc_of a i b j))

-- the arc from a to b, where the signs lead ahead of some pieces of them
abbrev pub ArePartsAhead : Table → ℕ → ℕ → List Sign → ℕ → ℕ → Type 0
ArePartsAhead t a b signs x y = (x ≡ a) × (y ≡ b) × IsAheadBy t signs a b

-- the arc from the one to the other of the two parts that a number names, which are ordered by their sum
abbrev pub IsPairArc : Table → ℕ → List Sign → ℕ → ℕ → Type 0
IsPairArc t pair = ArePartsAhead t (pair % 32) ((pair / 32 + 32 - pair % 32) % 32)
