use Rattle.std.proofs.Common.{◌≡◌, ◌*◌, ◌^◌, min}
use Rattle.staat_off.specs.declared.trim.TheConstants.{BEYOND}
use Rattle.staat_off.proofs.trim.with_zeros.Given as goal

abbrev pub invariant-loop : goal.invariant-loop
invariant-loop l = l.value ≡ min (l.mantissa * 10 ^ l.counter) BEYOND
