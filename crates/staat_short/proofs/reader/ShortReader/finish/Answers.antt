use Rattle.staat_cert.proofs.TextLemmas.{memory_is, memory_told}
use Rattle.staat_short.proofs.reader.ShortReader.finish.Goals as goal

pub returns-clause-failed : goal.returns-clause-failed
returns-clause-failed c = memory_is _ _ c.finish.ensures.failing

pub returns-clause-only : goal.returns-clause-only
returns-clause-only c = memory_told _ _ c.finish.ensures.failing
