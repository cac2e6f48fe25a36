use Rattle.std.proofs.Common.{take}
use Rattle.staat_number.specs.Spelling.{AreDigitsOf}
use Rattle.staat_number.specs.declared.spelling.TheConstants.{MOST_SHORT}
use Rattle.staat_number.proofs.spelling.short_value.Given as goal

abbrev pub invariant-digits : goal.invariant-digits
invariant-digits l = AreDigitsOf MOST_SHORT (take l.b-index l.digits) l.value
