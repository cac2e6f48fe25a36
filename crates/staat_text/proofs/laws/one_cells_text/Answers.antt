use Rattle.staat_text.proofs.CellLines.{one_text}
use Rattle.staat_text.proofs.laws.one_cells_text.Goals as goal

pub returns : goal.returns
returns c = one_text
