use Rattle.std.proofs.Common.{◌≡◌, ◌≤◌}
use Rattle.staat_local.specs.Beginnings.{HoldsBetween}
use Rattle.staat_local.proofs.graph.holds_between.Given as goal

abbrev pub invariant-loop-i : goal.invariant-loop-i
invariant-loop-i l = (h : HoldsBetween l.table l.marks l.d l.a l.b) → l.i ≤ h.i

abbrev pub invariant-loop-j : goal.invariant-loop-j
invariant-loop-j l = (h : HoldsBetween l.table l.marks l.d l.a l.b) → h.i ≡ l.i → l.j ≤ h.j
