-- Which part blocks which along a direction, for all parts.
use Rattle.std.specs.Prelude.{◌≡◌, ◌≢◌, ℕ, ◌<◌, ◌↔◌, List, Bool, All, length}
use Rattle.staat_vec.specs.declared.vector.V3.{V3}
use Rattle.staat_vec.specs.declared.vector.TheConstants.{DIRECTION}
use Rattle.staat_vec.specs.Vectors.{IsWithin, origin}
use Rattle.staat_model.specs.declared.assembly.Part.{Part}
use Rattle.staat_model.specs.Removal.{Blocks}
use Rattle.staat_decide.specs.declared.likely.AskedRows.{AskedRows}
use Rattle.staat_decide.specs.Reaching.{HasRowArc}

-- a row for each part, in which each part it blocks along d is marked
pub record AreAllRows (parts : List Part) (d : V3) (rows : List (List Bool)) : Type 0 where
  pub count : length rows ≡ length parts
  pub widths : All (λ row. length row ≡ length parts) rows
  pub arcs : (a b : ℕ) → a < length parts → b < length parts → HasRowArc rows a b ↔ Blocks parts d a b

-- the direction is not zero and not too great, and the rows are those of these parts along it
pub record AreAskedRows (parts : List Part) (asked : AskedRows) : Type 0 where
  pub size : IsWithin DIRECTION asked.d
  pub moves : asked.d ≢ origin
  pub rows_are : AreAllRows parts asked.d asked.rows
