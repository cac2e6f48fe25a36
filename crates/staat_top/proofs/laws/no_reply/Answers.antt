use Rattle.staat_top.proofs.OneReply.{no_reply}
use Rattle.staat_top.proofs.laws.no_reply.Goals as goal

pub returns : goal.returns
returns c = no_reply
