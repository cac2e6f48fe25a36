use Rattle.std.proofs.Common.{append_assoc, rules}
use Rattle.staat_fault.proofs.line.too_great.Goals as goal

pub returns : goal.returns
returns c = search (rules, append_assoc)
