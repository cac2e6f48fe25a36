use Rattle.std.proofs.Common.{◌≡◌, take}
use Rattle.staat_text.specs.Parts.{lines_from}
use Rattle.staat_text.proofs.parts.lines.Given as goal

abbrev pub invariant-loop-part : goal.invariant-loop-part
invariant-loop-part l = l.text.items ≡ lines_from 0 (take l.part l.a)
