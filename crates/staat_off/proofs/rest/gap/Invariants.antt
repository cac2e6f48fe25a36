use Rattle.std.proofs.Common.{◌≡◌, ◌+◌, false, drop}
use Rattle.staat_off.specs.Scan.{gap}
use Rattle.staat_off.proofs.rest.gap.Given as goal

abbrev pub invariant-loop-i : goal.invariant-loop-i
invariant-loop-i l = l.i + gap l.in_comment (drop l.i l.bytes) ≡ gap false l.bytes
