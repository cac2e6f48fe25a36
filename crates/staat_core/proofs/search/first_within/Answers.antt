use Rattle.staat_core.proofs.FirstVertices.{axis_first}
use Rattle.staat_core.proofs.search.first_within.Goals as goal

pub returns-in-Some-clause-first : goal.returns-in-Some-clause-first
returns-in-Some-clause-first g c parts planes made knows are =
    axis_first (g.T.Trial.serves parts c.args.w) (g.T.Trial.finds parts c.args.w) parts c.args.w planes are c.in-Some.served (c.in-Some.ensures.served parts made knows)
