use Rattle.staat_top.proofs.OneReply.{one_reply}
use Rattle.staat_top.proofs.laws.one_reply.Goals as goal

pub returns : goal.returns
returns c = one_reply
