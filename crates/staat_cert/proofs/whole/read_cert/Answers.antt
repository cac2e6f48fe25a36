use Rattle.std.proofs.Common.{[]}
use Rattle.staat_cert.proofs.whole.read_cert.Goals as goal

pub returns-in-Ok : goal.returns-in-Ok
returns-in-Ok c = c.finish.ensures.answer c.args.bytes.now (c.feed.ensures.fed [] c.in-Ok.ensures.fed)
