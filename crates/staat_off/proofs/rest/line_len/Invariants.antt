use Rattle.std.proofs.Common.{◌≡◌, ◌+◌, drop}
use Rattle.staat_off.specs.Scan.{line_len}
use Rattle.staat_off.proofs.rest.line_len.Given as goal

abbrev pub invariant-loop-i : goal.invariant-loop-i
invariant-loop-i l = l.i + line_len (drop l.i l.bytes) ≡ line_len l.bytes
