use Rattle.std.proofs.Common.{◌≡◌, take}
use Rattle.staat_explode.specs.ShiftTexts.{shift_lines_from}
use Rattle.staat_explode.proofs.texts.shifts_text.Given as goal

abbrev pub invariant-loop-part : goal.invariant-loop-part
invariant-loop-part l = l.text.items ≡ shift_lines_from 0 (take l.part l.shifts)
