use Rattle.std.proofs.Common.{◌∙◌, ap, sym}
use Rattle.staat_vec.specs.Vectors.{negative}
use Rattle.staat_vec.specs.declared.vector.TheConstants.{DIRECTION}
use Rattle.staat_vec.proofs.Canons.{negative-negative}
use Rattle.staat_core.proofs.search.served_at.Goals as goal

pub returns-in-Opposite-clause-among : goal.returns-in-Opposite-clause-among
returns-in-Opposite-clause-among g c = record {
  size = c.neg.ensures.size DIRECTION c.requires.size;
  some = λ e. c.requires.some (sym (negative-negative c.args.d) ∙ ap negative (sym c.neg.ensures.value ∙ e));
  among = c.in-Opposite.ensures.among;
}
