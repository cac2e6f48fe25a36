use Rattle.staat_plan.proofs.Opposites.{serves_opposite}
use Rattle.staat_plan.proofs.step.SidesTrial.ask.Goals as goal

pub returns-in-None-clause-tried : goal.returns-in-None-clause-tried
returns-in-None-clause-tried c parts made known =
    let held = c.in-None.ensures.moves parts c.args.d c.requires.some (c.graph_in.ensures.shows parts made) in
    (held, λ serves. held (serves_opposite parts c.args.w c.args.d serves))

pub returns-in-Some-clause-tried : goal.returns-in-Some-clause-tried
returns-in-Some-clause-tried c parts made known =
    c.in-Some.ensures.moves parts c.args.d c.requires.some (c.graph_in.ensures.shows parts made)
