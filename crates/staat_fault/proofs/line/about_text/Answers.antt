use Rattle.std.proofs.Common.{append_assoc, rules}
use Rattle.staat_fault.proofs.line.about_text.Goals as goal

pub returns : goal.returns
returns c = rw (← c.as_str-name.ensures, ← c.as_str-text.ensures) (search (rules, append_assoc))
