use Rattle.staat_holds.specs.Holds.{IsCorePair}
use Rattle.staat_holds.proofs.FirstFailing.{keep_all, keep_more}
use Rattle.staat_holds.proofs.rules.first_bad_pair.Goals as goal

pub loop-k-preserved : goal.loop-k-preserved
loop-k-preserved c = keep_more (IsCorePair c.args.parts.now c.args.places.now c.args.count) c.args.pairs.now c.loop-k.k _ c.loop-k-test.true c.loop-k.invariant (c.is_core_pair.ensures.0 c.if-not-is_core_pair.false)

pub returns : goal.returns
returns c = keep_all (IsCorePair c.args.parts.now c.args.places.now c.args.count) c.args.pairs.now c.loop-k.k c.loop-k-test.false c.loop-k.invariant
