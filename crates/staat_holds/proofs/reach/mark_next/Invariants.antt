use Rattle.staat_holds.proofs.Marking.{Marks}
use Rattle.staat_holds.proofs.reach.mark_next.Given as goal

abbrev pub invariant-loop-way : goal.invariant-loop-way
invariant-loop-way l = Marks l.ways l.way-index l.initial.marks l.marks l.is_new
