use Rattle.staat_cert.proofs.TextLemmas.{memory_is, memory_told}
use Rattle.staat_short.proofs.reader.ShortReader.feed.Goals as goal

pub returns-clause-failing : goal.returns-clause-failing
returns-clause-failing c = memory_told _ _ c.feed.ensures.failing

pub returns-clause-only : goal.returns-clause-only
returns-clause-only c = memory_is _ _ c.feed.ensures.failing

pub returns-clause-failed : goal.returns-clause-failed
returns-clause-failed c = λ out. let still = c.feed.ensures.failed out in (memory_is _ _ c.feed.ensures.failing still, still)
