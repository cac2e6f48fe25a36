-- The text of all cells of directions, each with its blocking graph.
use Rattle.std.specs.Prelude.{◌≡◌, ◌++◌, ◌∷◌, [], ℕ, ◌<◌, ◌≤◌, Result, Ok, Err, List}
use Rattle.std.specs.Prelude.{length, flat_map, count_by, codes, decimal, Bool, true, false}
use Rattle.staat_vec.specs.declared.vector.V3.{V3}
use Rattle.staat_model.specs.declared.assembly.Part.{Part}
use Rattle.staat_limits.specs.declared.limits.TheConstants.{TEXT_LIMIT}
use Rattle.staat_model.specs.declared.refusal.TextRefusal.{TextRefusal}
use Rattle.staat_model.specs.declared.refusal.TextRefusal.TheVariants.{TextTooLong, OutOfMemory}
use Rattle.staat_model.specs.declared.set.PartSet.{PartSet}
use Rattle.staat_model.specs.declared.tree.Kind.{Kind}
use Rattle.staat_model.specs.declared.tree.Kind.TheVariants.{Point, Edge, Open}
use Rattle.staat_model.specs.Cells.{AreCells, CellEntry, signs_of}
use Rattle.staat_model.specs.Lines.{vector_numbers}
use Rattle.staat_model.specs.Planes.{ArePlanes}
use Rattle.staat_model.specs.Sets.{below}
use Rattle.staat_graph.specs.Blocking.{ShowsBlocking}
use Rattle.staat_pairs.specs.Tables.{Table}
use Rattle.staat_cells.specs.CellGraphs.{IsCellGraph}
use Rattle.staat_text.specs.declared.arcs.ArcForm.{ArcForm}
use Rattle.staat_text.specs.declared.arcs.ArcForm.TheVariants.{Line, Short}
use Rattle.staat_text.specs.GraphTexts.{arc_line, arcs_of}
use Rattle.staat_text.specs.PlanTexts.{numbers_before}

-- the word for a kind of cell
abbrev pub kind_word : Kind → List ℕ
kind_word Point = codes "point"
kind_word Edge = codes "edge"
kind_word Open = codes "open"

-- ` A>B`
abbrev pub short_arc : ℕ × ℕ → List ℕ
short_arc arc = codes " " ++ decimal arc.0 ++ codes ">" ++ decimal arc.1

-- the arc in one form or the other
abbrev pub arc_in : ArcForm → ℕ × ℕ → List ℕ
arc_in Line arc = arc_line arc
arc_in Short arc = short_arc arc

-- the arcs, or ` -` where there is none
abbrev pub short_arcs : List (ℕ × ℕ) → List ℕ
short_arcs [] = codes " -"
short_arcs (arc ∷ arcs) = flat_map short_arc (arc ∷ arcs)

-- the kind, the representative and the arcs among the parts below n
abbrev pub cell_line : ℕ → CellEntry → List ℕ → List ℕ
cell_line n c rows =
    kind_word c.kind ++ numbers_before (vector_numbers c.d) (short_arcs (arcs_of rows n) ++ codes "\n")

-- the same, where the arcs have this text
abbrev pub line_with : CellEntry → List ℕ → List ℕ
line_with c arcs = kind_word c.kind ++ numbers_before (vector_numbers c.d) (arcs ++ codes "\n")

-- a line for each cell, with the rows of its graph
abbrev pub cell_lines : ℕ → List CellEntry → List (List ℕ) → List ℕ
cell_lines n [] graphs = []
cell_lines n (c ∷ cells) [] = []
cell_lines n (c ∷ cells) (rows ∷ graphs) = cell_line n c rows ++ cell_lines n cells graphs

abbrev pub same_kind : Kind → Kind → Bool
same_kind Point Point = true
same_kind Point Edge = false
same_kind Point Open = false
same_kind Edge Point = false
same_kind Edge Edge = true
same_kind Edge Open = false
same_kind Open Point = false
same_kind Open Edge = false
same_kind Open Open = true

-- how many cells there are of a kind
abbrev pub kind_count : Kind → List CellEntry → ℕ
kind_count kind cells = count_by (λ c. same_kind kind c.kind) cells

-- `planes N points P edges E open O`
abbrev pub count_line : ℕ → ℕ → ℕ → ℕ → List ℕ
count_line planes points edges opens =
    codes "planes " ++ decimal planes ++ codes " points " ++ decimal points
    ++ codes " edges " ++ decimal edges ++ codes " open " ++ decimal opens ++ codes "\n"

-- that line for the cells
abbrev pub totals_line : ℕ → List CellEntry → List ℕ
totals_line planes cells = count_line planes (kind_count Point cells) (kind_count Edge cells) (kind_count Open cells)

-- the line with the numbers, and a line for each cell
abbrev pub cells_text : ℕ → ℕ → List CellEntry → List (List ℕ) → List ℕ
cells_text planes n cells graphs = totals_line planes cells ++ cell_lines n cells graphs

-- R holds of each cell and its rows
abbrev pub EachCell : (CellEntry → List ℕ → Type 0) → List CellEntry → List (List ℕ) → Type 0
EachCell R [] [] = Unit {0}
EachCell R [] (rows ∷ graphs) = ⊥
EachCell R (c ∷ cells) [] = ⊥
EachCell R (c ∷ cells) (rows ∷ graphs) = R c rows × EachCell R cells graphs

-- the rows have the arcs of the blocking graph at every direction of the cell
abbrev pub IsGraphOfCell : List Part → PartSet → List V3 → CellEntry → List ℕ → Type 0
IsGraphOfCell parts w planes c rows = (d : V3) → signs_of planes d ≡ c.signs → ShowsBlocking parts d w rows

-- the bytes are the text of these cells of a table of the parts below n, each with the arcs that the table has by its
-- signs
pub record IsTextOfCells (t : Table) (n : ℕ) (cells : List CellEntry) (text : List ℕ) : Type 0 where
  pub graphs : List (List ℕ)
  pub graphs_are : EachCell (λ c rows. IsCellGraph t c.signs rows) cells graphs
  pub is : text ≡ cells_text (length t.planes) n cells graphs

-- what is answered for a text with P: it, or its length where it is too long
abbrev pub IsAnswer : (List ℕ → Type 0) → Result (List ℕ) TextRefusal → Type 0
IsAnswer P (Ok text) = P text × (length text ≤ TEXT_LIMIT)
IsAnswer P (Err (TextTooLong k)) = (text : List ℕ) × P text × (k ≡ length text) × (TEXT_LIMIT < k)
IsAnswer P (Err OutOfMemory) = Unit {0}

-- the bytes are the text of all cells of the parts below n
pub record IsCellsText (parts : List Part) (n : ℕ) (text : List ℕ) : Type 0 where
  pub planes : List V3
  pub planes_are : ArePlanes parts (below n) planes
  pub cells : List CellEntry
  pub cells_are : AreCells planes cells
  pub graphs : List (List ℕ)
  pub graphs_are : EachCell (IsGraphOfCell parts (below n) planes) cells graphs
  pub is : text ≡ cells_text (length planes) n cells graphs

-- what is answered for all cells of the parts below n
abbrev pub IsCellsAnswer : List Part → ℕ → Result (List ℕ) TextRefusal → Type 0
IsCellsAnswer parts n = IsAnswer (IsCellsText parts n)
