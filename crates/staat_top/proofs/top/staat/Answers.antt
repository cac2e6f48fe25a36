use Rattle.std.proofs.Common.{refl}
use Rattle.staat_top.proofs.RunLemmas.{ran_answer, ran_fault}
use Rattle.staat_top.proofs.top.staat.Goals as goal

pub returns-in-Ok-clause-ran : goal.returns-in-Ok-clause-ran
returns-in-Ok-clause-ran g c = ran_answer _ _ _ _ c.in-Ok.answer c.print.result c.in-Ok.ensures.opens c.in-Ok.ensures.status c.in-Ok.ensures.found c.in-Ok.ensures.bounds c.in-Ok.ensures.usage c.print.ensures.whole c.print.ensures.part c.print.ensures.line

pub returns-in-Err-clause-ran : goal.returns-in-Err-clause-ran
returns-in-Err-clause-ran g c = ran_fault _ _ _ _ c.refuse.result c.in-Err.fault c.in-Err.ensures.holds c.in-Err.ensures.opens c.in-Err.ensures.explained c.in-Err.ensures.fault_bounds refl c.refuse.ensures.whole c.refuse.ensures.part
