use Rattle.std.proofs.Common.{Any, arith}
use Rattle.std.specs.Prelude.{IsTrue}
use Rattle.staat_model.specs.Meeting.{Meets}
use Rattle.staat_motion.specs.Shadows.{IsShadow}
use Rattle.staat_motion.proofs.Kept.{none_any, none_more}
use Rattle.staat_motion.proofs.Zips.{zip_length, zip_read}
use Rattle.staat_motion.proofs.along.Along.one_meets_one_of.Goals as goal

pub bounds-ss-i : goal.bounds-ss-i
bounds-ss-i g c =
    let all = zip_length (IsShadow c.args.self.now.frame) c.args.body.now.pieces.now c.args.body.now.shadows.now c.requires.body.each in
    omega (arith, all)

pub offset_bounds-ss-i : goal.offset_bounds-ss-i
offset_bounds-ss-i g c =
    let all = zip_length (IsShadow c.args.self.now.frame) c.args.body.now.pieces.now c.args.body.now.shadows.now c.requires.body.each in
    omega (arith, all)

pub meets_one_of-requires-clause-first : goal.meets_one_of-requires-clause-first
meets_one_of-requires-clause-first g c = zip_read (IsShadow c.args.self.now.frame) c.args.body.now.pieces.now c.args.body.now.shadows.now c.loop-i.i c.index-ps-i.result _ c.requires.body.each c.loop-i-test.true c.index-ps-i.is

pub loop-i-preserved : goal.loop-i-preserved
loop-i-preserved g c =
    none_more (λ p. Any (λ q. Meets p q c.args.self.now.d) c.args.others.now.pieces.now) c.args.body.now.pieces.now c.loop-i.i c.index-ps-i.result c.loop-i-test.true c.index-ps-i.is
    (λ m. let told : IsTrue c.in_ok-meets_one_of.field-0 = c.in_ok-meets_one_of.ensures.1 m in absurd (cc (c.if-branch.false))) c.loop-i.invariant

pub returns : goal.returns
returns g c = none_any (λ p. Any (λ q. Meets p q c.args.self.now.d) c.args.others.now.pieces.now) c.args.body.now.pieces.now c.loop-i.i (omega arith) c.loop-i.invariant
