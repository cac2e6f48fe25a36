use Rattle.std.proofs.Common.{◌≤◌}
use Rattle.staat_planes.specs.Tables.{IsAhead}
use Rattle.staat_certify.proofs.vantage.Vantage.least_arc.Given as goal

abbrev pub invariant-loop-i : goal.invariant-loop-i
invariant-loop-i l = (h : IsAhead l.self.table.now l.self.d l.a l.b) → l.i ≤ h.i
