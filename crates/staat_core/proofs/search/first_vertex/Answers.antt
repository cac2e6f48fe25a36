use Rattle.std.proofs.Common.{arith}
use Rattle.staat_core.proofs.search.first_vertex.Goals as goal

pub returns-in-Undecided-clause-first : goal.returns-in-Undecided-clause-first
returns-in-Undecided-clause-first g c parts planes made knows are =
    let less = (c.in-Undecided.ensures.first parts planes made knows are).1 in
    absurd (omega (arith, less))
