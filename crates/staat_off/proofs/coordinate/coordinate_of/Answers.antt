use Rattle.std.proofs.Common.{ap, ◌∙◌}
use Rattle.staat_off.specs.Coordinates.{coordinate_of, decision_of}
use Rattle.staat_off.specs.Views.{numeral_view}
use Rattle.staat_off.proofs.Decisions.{decided_by_quotient}
use Rattle.staat_off.proofs.coordinate.coordinate_of.Goals as goal

pub returns-in-None : goal.returns-in-None
unfolding coordinate_of
returns-in-None c = ap (λ n. decision_of c.args.digits n c.args.word.at) c.in-None.ensures.exact

pub returns-in-Some : goal.returns-in-Some
unfolding coordinate_of
returns-in-Some c =
    decided_by_quotient c.args.digits (numeral_view c.in-Some.numeral) c.args.word.at _ c.value_of.ensures ∙ ap (λ n. decision_of c.args.digits n c.args.word.at) c.in-Some.ensures.exact
