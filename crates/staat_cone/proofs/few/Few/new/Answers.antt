use Rattle.staat_cone.proofs.FewLemmas.{grown_nothing}
use Rattle.staat_cone.proofs.few.Few.new.Goals as goal

pub returns-clause-grown : goal.returns-clause-grown
returns-clause-grown c p q =
    rw (c.in_ok-with_capacity.ensures.items, c.in_ok-with_capacity-2.ensures.items, c.in_ok-with_capacity-3.ensures.items) (grown_nothing p q)
