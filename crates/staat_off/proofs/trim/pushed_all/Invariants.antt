use Rattle.std.proofs.Common.{◌≤◌, ◌+◌, ℕ, take}
use Rattle.std.specs.Str.Parse.{digits_value_after}
use Rattle.staat_off.specs.Trims.{Trims}
use Rattle.staat_off.proofs.trim.pushed_all.Given as goal

abbrev pub invariant-loop-digit : goal.invariant-loop-digit
invariant-loop-digit l = record {
  trims : (value : ℕ) → Trims l.fn.front.mantissa l.fn.front.zeros value → Trims l.trimmed.mantissa l.trimmed.zeros (digits_value_after 10 value (take l.digit-index l.digits));
  zeros : l.trimmed.zeros ≤ l.fn.front.zeros + l.digit-index;
}
