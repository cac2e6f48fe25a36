use Rattle.std.specs.Prelude.{None, Some}
use Rattle.staat_model.proofs.SomePlanes.{some_planes}
use Rattle.staat_linear.proofs.Choosing.{locked_if_none, served_is_leave}
use Rattle.staat_linear.proofs.Others.{two_some}
use Rattle.staat_linear.proofs.step.linear_step.Goals as goal

pub first_vertex-requires-clause-nonempty : goal.first_vertex-requires-clause-nonempty
first_vertex-requires-clause-nonempty c = two_some c.args.w c.requires.two

pub returns-in-None-clause-step : goal.returns-in-None-clause-step
returns-in-None-clause-step c parts made =
    let some = some_planes parts c.args.w in
    record { planes = some.0; planes_are = some.1; none = c.in-None.ensures.first parts some.0 made tt some.1 }

pub returns-in-None-clause-locked : goal.returns-in-None-clause-locked
returns-in-None-clause-locked c parts made = locked_if_none parts c.args.w None made.assembly c.requires.two (returns-in-None-clause-step c parts made)

pub returns-in-Some-clause-step : goal.returns-in-Some-clause-step
returns-in-Some-clause-step c parts made = served_is_leave parts c.args.w c.in-Some.served (λ planes. c.in-Some.ensures.first parts planes made tt)

pub returns-in-Some-clause-locked : goal.returns-in-Some-clause-locked
returns-in-Some-clause-locked c parts made = locked_if_none parts c.args.w (Some _) made.assembly c.requires.two (returns-in-Some-clause-step c parts made)
