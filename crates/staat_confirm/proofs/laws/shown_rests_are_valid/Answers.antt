use Rattle.staat_confirm.proofs.Valid.{shown_rest}
use Rattle.staat_confirm.proofs.laws.shown_rests_are_valid.Goals as goal

pub returns : goal.returns
returns c = shown_rest
