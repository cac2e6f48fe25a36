use Rattle.std.proofs.Common.{◌∙◌, sym, arith}
use Rattle.std.specs.Ordering.{nat_cmp}
use Rattle.staat_cert.proofs.Lists.{follows_last}
use Rattle.staat_short.proofs.hold_lines.part_follows.Goals as goal

pub returns-in-len1-up : goal.returns-in-len1-up
returns-in-len1-up c = c.is_part_below.ensures ∙ sym (follows_last nat_cmp c.args.nodes.now c.args.p _ (omega arith))
