use Rattle.staat_mesh.proofs.MakeLemmas.{accepted_piece}
use Rattle.staat_mesh.proofs.laws.accepted_is_a_piece.Goals as goal

pub returns : goal.returns
returns c = accepted_piece
