use Rattle.staat_holds.specs.Holds.{IsCorePair}
use Rattle.staat_decide.proofs.EachPasses.{each_has, each_more, one_lacks}
use Rattle.staat_decide.proofs.holding.are_core_pairs.Goals as goal

pub returns-then-not-is_core_pair : goal.returns-then-not-is_core_pair
returns-then-not-is_core_pair c =
    one_lacks (IsCorePair c.args.parts.now c.args.nodes.now c.args.count) c.args.pairs.now c.loop-pair.pair-index _ c.is_core_pair.result
    c.loop-pair-test.true c.is_core_pair.ensures.1 c.if-not-is_core_pair.true

pub loop-pair-preserved : goal.loop-pair-preserved
loop-pair-preserved c =
    each_more (IsCorePair c.args.parts.now c.args.nodes.now c.args.count) c.args.pairs.now c.loop-pair.pair-index _
    c.loop-pair-test.true c.loop-pair.invariant (c.is_core_pair.ensures.0 c.if-not-is_core_pair.false)

pub returns : goal.returns
returns c =
    each_has (IsCorePair c.args.parts.now c.args.nodes.now c.args.count) c.args.pairs.now c.loop-pair.pair-index c.loop-pair-test.false c.loop-pair.invariant
