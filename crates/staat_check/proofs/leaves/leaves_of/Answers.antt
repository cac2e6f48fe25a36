use Rattle.std.proofs.Common.{◌≡◌, arith, length, subst}
use Rattle.staat_check.specs.Leaves.{AreLeaves}
use Rattle.staat_vec.proofs.ListLaws.{place_is}
use Rattle.staat_check.proofs.LeafLemmas.{first_bad, leaves_more, leaves_none}
use Rattle.staat_check.proofs.leaves.leaves_of.Goals as goal

pub loop-k-init : goal.loop-k-init
loop-k-init c = leaves_none c.args.count c.args.nodes.now c.empty-leaves.result c.empty-leaves.ensures.is

pub returns-in-None : goal.returns-in-None
returns-in-None c = first_bad c.args.count c.args.nodes.now c.loop-k.k c.loop-k.leaves c.index-nodes-k.result (place_is c.args.nodes.now c.loop-k.k c.index-nodes-k.result c.loop-k-test.true c.index-nodes-k.is) c.loop-k.invariant c.in-None.ensures

pub loop-k-preserved : goal.loop-k-preserved
loop-k-preserved c = leaves_more c.args.count c.args.nodes.now c.loop-k.k c.loop-k.leaves c.in-Some.more c.loop-k.invariant c.index-nodes-k.result (place_is c.args.nodes.now c.loop-k.k c.index-nodes-k.result c.loop-k-test.true c.index-nodes-k.is) c.in-Some.ensures

pub returns : goal.returns
returns c = let all : c.loop-k.k ≡ length c.args.nodes.now = omega (arith, c.loop-k-test.false, c.loop-k.auto.k-end) in subst (λ m. AreLeaves c.args.count c.args.nodes.now m c.loop-k.leaves) all c.loop-k.invariant
