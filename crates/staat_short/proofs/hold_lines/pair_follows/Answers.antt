use Rattle.std.proofs.Common.{◌∙◌, sym, arith}
use Rattle.staat_model.specs.Certificates.{arc_cmp}
use Rattle.staat_cert.proofs.Lists.{follows_last}
use Rattle.staat_short.proofs.hold_lines.pair_follows.Goals as goal

pub returns-in-len1-up : goal.returns-in-len1-up
returns-in-len1-up c = c.is_arc_below.ensures ∙ sym (follows_last arc_cmp c.args.pairs.now c.args.pair _ (omega arith))
