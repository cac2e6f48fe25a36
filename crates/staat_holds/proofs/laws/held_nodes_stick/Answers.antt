use Rattle.staat_holds.proofs.HoldLaw.{held_stick}
use Rattle.staat_holds.proofs.laws.held_nodes_stick.Goals as goal

pub returns : goal.returns
returns c = λ parts nodes count core sets each pairs are nodes_are held. held_stick parts nodes count core sets pairs are each held nodes_are
