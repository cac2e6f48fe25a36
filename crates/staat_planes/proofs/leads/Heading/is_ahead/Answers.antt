use Rattle.std.proofs.Common.{◌<ℤ◌, pos, subst}
use Rattle.std.proofs.lemmas.List.Elements.{All-more}
use Rattle.std.specs.Int.{w128}
use Rattle.staat_vec.specs.Vectors.{dot}
use Rattle.staat_vec.proofs.ListLaws.{place_is}
use Rattle.staat_vec.proofs.LoopAnswers.{all_kept, not_all}
use Rattle.staat_cone.proofs.AheadLemmas.{is_ahead, not_ahead}
use Rattle.staat_planes.proofs.leads.Heading.is_ahead.Goals as goal

pub returns-then-along-le0 : goal.returns-then-along-le0
returns-then-along-le0 c =
    let n = c.n-item.result in
    not_all (λ n. pos 0 <ℤ dot n c.args.self.now.d) c.args.facets.now c.loop-n.n-index n (place_is c.args.facets.now c.loop-n.n-index n c.loop-n-test.true c.n-item.is)
    (not_ahead w128 c.along.result _ (record { sfits = c.along.type_inv }) c.along.ensures c.if-along-le0.true)

pub loop-n-preserved : goal.loop-n-preserved
loop-n-preserved c =
    All-more (λ n. pos 0 <ℤ dot n c.args.self.now.d) c.args.facets.now c.loop-n.n-index c.n-item.result c.loop-n-test.true c.loop-n.invariant
    (subst (λ n. pos 0 <ℤ dot n c.args.self.now.d) c.n-item.is (is_ahead w128 c.along.result _ (record { sfits = c.along.type_inv }) c.along.ensures c.if-along-le0.false))

pub returns : goal.returns
returns c = all_kept (λ n. pos 0 <ℤ dot n c.args.self.now.d) c.args.facets.now c.loop-n.n-index c.loop-n-test.false c.loop-n.invariant
