-- What is held of a text that may be too long.
use Rattle.std.specs.Prelude.{◌≡◌, ◌++◌, ◌≤◌, ℕ, List, length}
use Rattle.staat_limits.specs.declared.limits.TheConstants.{TEXT_LIMIT}
use Rattle.staat_model.specs.Cells.{CellEntry}
use Rattle.staat_pairs.specs.Tables.{Table}
use Rattle.staat_cells.specs.CellGraphs.{IsCellGraph}
use Rattle.staat_text.specs.declared.holding.HeldText.{HeldText}
use Rattle.staat_text.specs.CellTexts.{EachCell, cell_lines}

-- the length of the text, and its bytes as long as it is not too long
pub record HoldsText (held : HeldText) (text : List ℕ) : Type 0 where
  pub long : held.length ≡ length text
  pub bytes : length text ≤ TEXT_LIMIT → held.bytes.items ≡ text

-- what is held of a text is then held of this text with a line more
abbrev pub HoldsMore : HeldText → HeldText → List ℕ → Type 0
HoldsMore old new line = (text : List ℕ) → HoldsText old text → HoldsText new (text ++ line)

-- what is held of a text is then held of this text with a line for each cell, each with the graph of the cell
abbrev pub HoldsCells : Table → ℕ → List CellEntry → HeldText → HeldText → Type 0
HoldsCells t n cells old new =
    (text : List ℕ) → HoldsText old text
    → (graphs : List (List ℕ)) × EachCell (λ c rows. IsCellGraph t c.signs rows) cells graphs
    × HoldsText new (text ++ cell_lines n cells graphs)
