use Rattle.staat_cone.proofs.WallLemmas.{beyond_by_ends}
use Rattle.staat_cone.proofs.FewLemmas.{violator_by_ends}
use Rattle.staat_cone.proofs.behind.violator.Goals as goal

pub returns-then-is_nearer-clause-some : goal.returns-then-is_nearer-clause-some
returns-then-is_nearer-clause-some c =
    let low = c.lowest-least in
    let high = c.highest-most in
    rw (← c.points_of.ensures.points, ← c.points_of-2.ensures.points)
    (violator_by_ends _ _ c.args.n low.result high.result c.sub.result low.ensures.member low.ensures.along high.ensures.member high.ensures.along c.if-is_nearer.ensures c.sub.ensures.value c.sub.ensures.size)

pub returns-else-is_nearer-clause-none : goal.returns-else-is_nearer-clause-none
returns-else-is_nearer-clause-none c =
    rw (← c.points_of.ensures.points, ← c.points_of-2.ensures.points)
    (beyond_by_ends _ _ c.args.n _ _ c.lowest-least.ensures.least c.highest-most.ensures.most c.if-is_nearer.ensures)
