use Rattle.staat_model.proofs.SomePlanes.{some_planes}
use Rattle.staat_plan.proofs.StepLemmas.{no_step, step_is}
use Rattle.staat_plan.proofs.planner.vertex_step.Goals as goal

pub returns-in-First-clause-step : goal.returns-in-First-clause-step
returns-in-First-clause-step c parts made =
    let (planes, are) = some_planes parts c.args.w in
    let first = c.in-First.ensures.first parts planes made tt are in
    step_is parts c.args.w planes are c.in-First.served.d c.in-First.served.found first.first first.found_is

pub returns-in-Nothing-clause-step : goal.returns-in-Nothing-clause-step
returns-in-Nothing-clause-step c parts made =
    let (planes, are) = some_planes parts c.args.w in
    no_step parts c.args.w planes are (c.in-Nothing.ensures.first parts planes made tt are)
