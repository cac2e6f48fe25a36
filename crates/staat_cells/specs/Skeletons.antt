-- The points and edges of planes, and their open cells one after another.
use Rattle.std.specs.Prelude.{◌≡◌, ℕ, List, [], ◌∷◌, All, MatchOption, Option, if◌then◌else◌, length, map, true, false}
use Rattle.staat_vec.specs.declared.vector.V3.{V3}
use Rattle.staat_vec.specs.declared.vector.TheConstants.{EDGE}
use Rattle.staat_vec.specs.Vectors.{IsWithin}
use Rattle.staat_model.specs.declared.tree.Kind.{Kind}
use Rattle.staat_model.specs.declared.tree.Kind.TheVariants.{Edge, Open, Point}
use Rattle.staat_model.specs.Cells.{AreCellsOf, CellEntry}
use Rattle.staat_cells.specs.declared.cell.Cell.{Cell}
use Rattle.staat_cells.specs.declared.incidence.Incidence.{Incidence}
use Rattle.staat_cells.specs.declared.skeleton.Skeleton.{Skeleton}
use Rattle.staat_cells.specs.Compositions.{HaveEqualLengths, HavePairs, begins_cell, composed_at, composed_up_to}
use Rattle.staat_cells.specs.Compositions.{entry_of}

-- a cell begins at the place, and this is it
pub record IsComposedAt (kind : Kind) (lower : List CellEntry) (incidences : List Incidence) (i : ℕ) (c : Cell)
    : Type 0 where
  pub begins : begins_cell incidences i ≡ true
  pub is : entry_of c ≡ composed_at kind lower incidences i

-- the cell that begins at the place, if one does
abbrev pub IsFoundAt : Kind → List CellEntry → List Incidence → ℕ → Option Cell → Type 0
IsFoundAt kind lower incidences i found =
    MatchOption found (begins_cell incidences i ≡ false) (IsComposedAt kind lower incidences i)

-- the open cell that begins at the place, as a list of one or of none
abbrev pub opens_at : Skeleton → ℕ → List CellEntry
opens_at s i = if begins_cell s.incidences.items i then composed_at Open
    (map entry_of s.edges.items) s.incidences.items i ∷ [] else []

-- the open cells that begin at the first places
abbrev pub opens_before : Skeleton → ℕ → List CellEntry
opens_before s i = composed_up_to Open (map entry_of s.edges.items) s.incidences.items i

-- the open cells can be composed from the edges
pub record HasEdges (s : Skeleton) : Type 0 where
  pub pairs : HavePairs s.incidences.items (length s.edges.items)
  pub size : All (λ c. IsWithin EDGE c.d) s.edges.items
  pub signs : HaveEqualLengths s.edges.items

-- the points, the edges and the open cells are those of the planes
pub record IsSkeleton (planes : List V3) (s : Skeleton) : Type 0 where
  pub has : HasEdges s
  pub points : AreCellsOf planes Point (map entry_of s.points.items)
  pub edges : AreCellsOf planes Edge (map entry_of s.edges.items)
  pub opens : AreCellsOf planes Open (opens_before s (length s.incidences.items))
