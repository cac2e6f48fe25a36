use Rattle.staat_planes.proofs.BothWays.{AreFound}
use Rattle.staat_planes.proofs.table.PlaneTable.leads_between.Given as goal

abbrev pub invariant-loop-i : goal.invariant-loop-i
invariant-loop-i l = AreFound l.self l.heading.d l.a l.b l.i 0 l.leads

abbrev pub invariant-loop-j : goal.invariant-loop-j
invariant-loop-j l = AreFound l.self l.heading.d l.a l.b l.i l.j l.leads
