use Rattle.staat_cells.proofs.PieceCones.{ahead_by_signs}
use Rattle.staat_cells.proofs.laws.arcs_by_signs.Goals as goal

pub returns : goal.returns
returns c t d a b rules = ahead_by_signs t d a b rules
