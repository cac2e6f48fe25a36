use Rattle.staat_confirm.proofs.Valid.{kept_hold}
use Rattle.staat_confirm.proofs.laws.kept_holds_are_valid.Goals as goal

pub returns : goal.returns
returns c parts hold ordered keep = kept_hold parts hold keep
