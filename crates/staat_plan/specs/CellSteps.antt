-- The first step along representatives of cells.
use Rattle.std.specs.Prelude.{◌≡◌, ◌≢◌, List, Option}
use Rattle.staat_vec.specs.Vectors.{origin}
use Rattle.staat_model.specs.{Cells.{CellEntry, signs_of}, Outcomes.try_cell, declared.assembly.Part.Part}
use Rattle.staat_pairs.specs.Tables.{Table, WasMadeFrom}
use Rattle.staat_plan.specs.{Planning.IsFoundAmong, declared.marked.Marked.Marked}

-- the representative lies in the cell
pub record IsTableCell (t : Table) (c : CellEntry) : Type 0 where
  pub signs : signs_of t.planes c.d ≡ c.signs
  pub some : c.d ≢ origin

-- the step along the representative of the first of the cells that serves the table's set, if one does
abbrev pub IsStepAmong : Table → List CellEntry → Option Marked → Type 0
IsStepAmong t cells found =
    (parts : List Part) → WasMadeFrom parts t → IsFoundAmong try_cell parts t.of cells found
