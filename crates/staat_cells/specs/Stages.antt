-- The incidences of the cells of one kind with those of the next, on whose borders they are.
use Rattle.std.specs.Prelude.{◌≡◌, ◌≢◌, ◌⊎◌, ◌↔◌, ℕ, ◌<◌, pos, List, length, slice_index_or}
use Rattle.std.specs.Prelude.{Contains, map}
use Rattle.staat_vec.specs.declared.vector.V3.{V3}
use Rattle.staat_vec.specs.declared.vector.Sign.{Sign}
use Rattle.staat_vec.specs.declared.vector.Sign.TheVariants.{Neg, Zero, Pos}
use Rattle.staat_vec.specs.Vectors.{cross, dot, negative}
use Rattle.staat_model.specs.declared.tree.Kind.{Kind}
use Rattle.staat_model.specs.declared.tree.Kind.TheVariants.{Edge, Point}
use Rattle.staat_model.specs.Planes.{axes}
use Rattle.staat_model.specs.Cells.{kind_of, signs_of, CellEntry, IsBorder, IsCell}
use Rattle.staat_cells.specs.declared.incidence.Incidence.{Incidence}
use Rattle.staat_cells.specs.Compositions.{no_cell}
use Rattle.staat_cells.specs.Packing.{incidence_of}
use Rattle.staat_cells.specs.Beside.{beside}

-- the cell at a place of a list
abbrev pub cell_at : List CellEntry → ℕ → CellEntry
cell_at cells k = slice_index_or cells k no_cell

-- the cell with the signs s is of the kind, and has the lower cell at place k on its border
pub record IsUnder (planes : List V3) (kind : Kind) (lower : List CellEntry) (s : List Sign) (k : ℕ) : Type 0 where
  pub cell : IsCell planes s
  pub by_count : kind_of s ≡ kind
  pub listed : k < length lower
  pub border : IsBorder (cell_at lower k).signs s

-- an incidence of a lower cell with a cell of the kind
pub record IsIncidence (planes : List V3) (kind : Kind) (lower : List CellEntry) (x : Incidence) : Type 0 where
  pub signs : List Sign
  pub under : IsUnder planes kind lower signs x.of
  pub is : x ≡ incidence_of signs x.of

-- the point at a vertex, as it is listed
abbrev pub point_entry : List V3 → V3 → CellEntry
point_entry planes v = record { kind = Point; d = v; signs = signs_of planes v }

-- the sign of a plane at the opposite direction
abbrev pub flipped : Sign → Sign
flipped Neg = Pos
flipped Zero = Zero
flipped Pos = Neg

-- the incidence of the cell at its own place, with its own signs
pub record IsOwnIncidence (cells : List CellEntry) (x : Incidence) : Type 0 where
  pub listed : x.of < length cells
  pub is : x ≡ incidence_of (cell_at cells x.of).signs x.of

-- the signs of an incidence, without its number
abbrev pub words_of : Incidence → Incidence
words_of x = record { a = x.a; b = x.b; c = x.c; d = x.d; of = 0 }

-- at each place the incidence has the signs of the cell there
abbrev pub HaveSigns : List CellEntry → List Incidence → Type 0
HaveSigns cells incidences = map words_of incidences ≡ map (λ (c : CellEntry). incidence_of c.signs 0) cells

-- the signs s are beside v on a plane c of cs through v, on one of the two sides of v, which the plane m tells apart
pub record IsBesideOn (cs planes : List V3) (v m : V3) (s : List Sign) : Type 0 where
  pub c : V3
  pub c_in : Contains cs c
  pub on : dot c v ≡ pos 0
  pub towards : (s ≡ beside planes v (cross c m)) ⊎ (s ≡ beside planes v (negative (cross c m)))

-- an incidence with such signs, and the number k
pub record IsBesideIncidence (cs planes : List V3) (v m : V3) (k : ℕ) (x : Incidence) : Type 0 where
  pub signs : List Sign
  pub beside : IsBesideOn cs planes v m signs
  pub is : x ≡ incidence_of signs k

-- an incidence of the vertex v, towards an edge that ends there, and the number k
pub record IsEdgeIncidence (planes : List V3) (v : V3) (k : ℕ) (x : Incidence) : Type 0 where
  pub signs : List Sign
  pub cell : IsCell planes signs
  pub edge : kind_of signs ≡ Edge
  pub border : IsBorder (signs_of planes v) signs
  pub is : x ≡ incidence_of signs k

-- an axis whose plane v does not lie on
pub record IsAxisOff (v m : V3) : Type 0 where
  pub axis : Contains axes m
  pub off : dot m v ≢ pos 0

-- the list has grown by what has P
abbrev pub GrewByAll : (Incidence → Type 0) → List Incidence → List Incidence → Type 0
GrewByAll P old new = (x : Incidence) → Contains new x ↔ (Contains old x ⊎ P x)
