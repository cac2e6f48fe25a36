use Rattle.staat_vec.specs.Vectors.{negative}
use Rattle.staat_linear.proofs.Freeing.{least_leaves, none_leaves, shows_back}
use Rattle.staat_linear.proofs.step.TakingTrial.ask.Goals as goal
use Rattle.staat_vec.proofs.VectorLaws.{negative_some}

pub returns-in-Some-clause-tried : goal.returns-in-Some-clause-tried
returns-in-Some-clause-tried c parts made known =
    let least = least_leaves parts c.args.w c.args.d c.graph_in-graph.result.rows (c.graph_in-graph.ensures.shows parts made) c.in-Some.p c.requires.some c.in-Some.ensures in
    ((c.in-Some.p, least.leaves), least)

pub returns-in-Some-least_free-clause-tried : goal.returns-in-Some-least_free-clause-tried
returns-in-Some-least_free-clause-tried c parts made known =
    let shows = c.graph_in-graph.ensures.shows parts made in
    let opposite = shows_back parts c.args.w c.args.d c.graph_in-graph.result.rows c.reversed.result.rows shows c.reversed.ensures in
    let least = least_leaves parts c.args.w (negative c.args.d) c.reversed.result.rows opposite c.in-Some-least_free.p (negative_some c.args.d c.requires.some) c.in-Some-least_free.ensures in
    (none_leaves parts c.args.w c.args.d c.graph_in-graph.result.rows shows c.in_default.ensures, (c.in-Some-least_free.p, least.leaves), least)

pub returns-in-None-clause-tried : goal.returns-in-None-clause-tried
returns-in-None-clause-tried c parts made known =
    let shows = c.graph_in-graph.ensures.shows parts made in
    let opposite = shows_back parts c.args.w c.args.d c.graph_in-graph.result.rows c.reversed.result.rows shows c.reversed.ensures in
    (none_leaves parts c.args.w c.args.d c.graph_in-graph.result.rows shows c.in_default.ensures, none_leaves parts c.args.w (negative c.args.d) c.reversed.result.rows opposite c.in-None.ensures)
