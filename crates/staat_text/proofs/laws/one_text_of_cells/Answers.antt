use Rattle.staat_text.proofs.CellLines.{one_text_by_signs}
use Rattle.staat_text.proofs.laws.one_text_of_cells.Goals as goal

pub returns : goal.returns
returns c t n cells text other a b = one_text_by_signs t n cells text other a b
