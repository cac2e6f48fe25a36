use Rattle.staat_holds.proofs.ChainLaw.{last_stuck}
use Rattle.staat_holds.proofs.laws.joined_parts_stick.Goals as goal

pub returns : goal.returns
returns c = λ parts holds w each sorted keep some is. last_stuck parts holds each sorted keep w some is
