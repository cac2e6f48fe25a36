use Rattle.std.proofs.Common.{sym, ◌∙◌}
use Rattle.staat_model.proofs.one_laws.one_spelling.Goals as goal

pub returns : goal.returns
returns c = λ bytes other d a b. a.is ∙ sym b.is
