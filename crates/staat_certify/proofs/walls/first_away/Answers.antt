use Rattle.std.proofs.Common.{All, pos, refl, ◌<ℤ◌, subst}
use Rattle.std.proofs.lemmas.List.{take_all}
use Rattle.std.proofs.lemmas.List.Elements.{All-more}
use Rattle.staat_vec.specs.Vectors.{dot, origin}
use Rattle.staat_certify.proofs.WallLemmas.{first_found}
use Rattle.staat_certify.proofs.walls.first_away.Goals as goal

pub returns-then-is_away : goal.returns-then-is_away
returns-then-is_away c = first_found c.args.d c.args.facets.now c.loop-n.n-index origin c.loop-n-test.true c.loop-n.invariant (c.if-is_away.ensures.yes refl)

pub loop-n-preserved : goal.loop-n-preserved
loop-n-preserved c = All-more (λ m. pos 0 <ℤ dot m c.args.d) c.args.facets.now c.loop-n.n-index origin c.loop-n-test.true c.loop-n.invariant (c.if-is_away.ensures.no refl)

pub returns : goal.returns
returns c = subst (All (λ m. pos 0 <ℤ dot m c.args.d)) (take_all c.loop-n.n-index c.args.facets.now c.loop-n-test.false) c.loop-n.invariant
