use Rattle.std.proofs.Common.{arith}
use Rattle.std.specs.Prelude.{IsTrue}
use Rattle.staat_model.specs.Meeting.{Meets}
use Rattle.staat_motion.specs.Shadows.{IsShadow}
use Rattle.staat_motion.proofs.Kept.{none_any, none_more}
use Rattle.staat_motion.proofs.Zips.{zip_length, zip_read}
use Rattle.staat_motion.proofs.along.Along.meets_one_of.Goals as goal

pub bounds-ts-j : goal.bounds-ts-j
bounds-ts-j g c =
    let all = zip_length (IsShadow c.args.self.now.frame) c.args.others.now.pieces.now c.args.others.now.shadows.now c.requires.others.each in
    omega (arith, all)

pub offset_bounds-ts-j : goal.offset_bounds-ts-j
offset_bounds-ts-j g c =
    let all = zip_length (IsShadow c.args.self.now.frame) c.args.others.now.pieces.now c.args.others.now.shadows.now c.requires.others.each in
    omega (arith, all)

pub pair_meets-requires-clause-second : goal.pair_meets-requires-clause-second
pair_meets-requires-clause-second g c = zip_read (IsShadow c.args.self.now.frame) c.args.others.now.pieces.now c.args.others.now.shadows.now c.loop-j.j c.index-qs-j.result _ c.requires.others.each c.loop-j-test.true c.index-qs-j.is

pub loop-j-preserved : goal.loop-j-preserved
loop-j-preserved g c =
    none_more (λ q. Meets c.args.p.now q c.args.self.now.d) c.args.others.now.pieces.now c.loop-j.j c.index-qs-j.result c.loop-j-test.true c.index-qs-j.is
    (λ m. let told : IsTrue c.in_ok-pair_meets.field-0 = c.in_ok-pair_meets.ensures.1 m in absurd (cc (c.if-branch.false))) c.loop-j.invariant

pub returns : goal.returns
returns g c = none_any (λ q. Meets c.args.p.now q c.args.self.now.d) c.args.others.now.pieces.now c.loop-j.j (omega arith) c.loop-j.invariant
