-- The table of all cells of directions.
use Rattle.std.specs.Prelude.{◌≡◌, ◌<◌, ◌≤◌, ℕ, List, length, Ok, Err, ◌≢◌}
use Rattle.staat_model.specs.declared.assembly.Part.{Part}
use Rattle.staat_limits.specs.declared.limits.TheConstants.{TEXT_LIMIT}
use Rattle.staat_fault.specs.declared.fault.Fault.TheVariants.{TextTooLong}
use Rattle.staat_text.specs.CellTexts.{IsCellsText}
use Rattle.staat_input.specs.declared.answer.Answer.{Answer}
use Rattle.staat_input.specs.Work.{Found, Files, Then}
use Rattle.staat_vec.specs.declared.vector.V3.{V3}
use Rattle.staat_vec.specs.Vectors.{origin}
use Rattle.staat_model.specs.Cells.{HasOneCell}
use Rattle.staat_words.specs.declared.request.CellsRequest.{CellsRequest}
use Rattle.staat_input.specs.Assembling.{IsSoundOf, AreSoundParts}
use Rattle.staat_input.specs.Counting.{AreCounted}

-- The last step for cells: the text of all cells, each with its blocking graph, or its length where it is too long.
pub data AreTabled (parts : List Part) : Found Answer → Type 0 where
  tabled : {found : Found Answer} (text : List ℕ) → IsCellsText parts (length parts) text →
      length text ≤ TEXT_LIMIT →
      found ≡ Ok (record { status = 0; text = text }) → AreTabled parts found
  table_too_long : {found : Found Answer} (text : List ℕ) → IsCellsText parts (length parts) text →
      TEXT_LIMIT < length text → found ≡ Err (TextTooLong (length text)) → AreTabled parts found

-- what it finds for sound parts: their planes are counted, and then the cells are told
abbrev pub AreCountedCells : ℕ → List Part → Found Answer → Type 0
AreCountedCells limit parts found = Then (AreCounted parts limit) (λ planes. AreTabled parts) found

-- what the work on `cells` finds
abbrev pub CellsWork : CellsRequest → Files → Found Answer → Type 0
CellsWork request files found =
    Then (IsSoundOf files request.asked) (λ parts. Then (AreCounted parts request.planes)
    (λ planes. AreTabled parts)) found

-- The text is the table of all cells, each with the arcs that the blocking graph has at every direction of the cell;
-- every direction, of any size, lies in exactly one of the cells.
pub record SaysCells (files : Files) (request : CellsRequest) (text : List ℕ) : Type 0 where
  pub parts : List Part
  pub sound : AreSoundParts files request.asked parts
  pub table : IsCellsText parts (length parts) text
  pub one : (d : V3) → d ≢ origin → HasOneCell table.planes table.cells d
