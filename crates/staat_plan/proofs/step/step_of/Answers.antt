use Rattle.staat_model.proofs.SomePlanes.{some_planes}
use Rattle.staat_plan.proofs.StepLemmas.{no_step, step_is}
use Rattle.staat_plan.proofs.step.step_of.Goals as goal

pub returns-in-None-clause-step : goal.returns-in-None-clause-step
returns-in-None-clause-step c parts made =
    let (planes, are) = some_planes parts c.args.w in
    no_step parts c.args.w planes are (c.in-None.ensures.first parts planes made tt are)

pub returns-in-Some-clause-step : goal.returns-in-Some-clause-step
returns-in-Some-clause-step c parts made =
    let (planes, are) = some_planes parts c.args.w in
    let first = c.in-Some.ensures.first parts planes made tt are in
    step_is parts c.args.w planes are c.in-Some.served.d c.in-Some.served.found first.first first.found_is
