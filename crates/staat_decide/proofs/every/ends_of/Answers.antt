use Rattle.std.proofs.Common.{refl}
use Rattle.staat_decide.proofs.EndSteps.{ends_all, ends_more}
use Rattle.staat_decide.proofs.every.ends_of.Goals as goal

pub loop-a-preserved : goal.loop-a-preserved
loop-a-preserved c =
    ends_more c.args.parts.now c.args.w.now c.loop-a.ends.items c.add_ends.new.ends.items c.loop-a.a-index _ c.index-parts-a.result c.as_slice.result.now
    (c.requires.members c.loop-a.a-index 0 c.loop-a-test.true) c.index-parts-a.is c.as_slice.ensures refl c.in_ok-add_ends.ensures.kept c.in_ok-add_ends.ensures.each c.loop-a.invariant

pub returns : goal.returns
returns c = ends_all c.args.parts.now c.args.w.now c.loop-a.ends.items c.loop-a.a-index c.loop-a-test.false c.loop-a.invariant
