use Rattle.std.proofs.Common.{arith, le_trans}
use Rattle.staat_core.proofs.Growing.{grows_further, grows_not}
use Rattle.staat_core.proofs.Holding.{among_more, few_planes, held_everywhere}
use Rattle.staat_core.proofs.cores.Core.holds.Goals as goal

pub loop-j-init : goal.loop-j-init
loop-j-init g c = record { core = c.requires.core; grows = grows_not c.args.self.now; held = λ parts speaks j lt. absurd (omega arith) }

pub loop-j-preserved : goal.loop-j-preserved
loop-j-preserved g c = record {
  core = c.holds_with_first.ensures.core;
  grows = grows_further c.args.self.now c.loop-j.self c.holds_with_first.new.self c.loop-j.invariant.grows c.holds_with_first.ensures.grows;
  held = λ parts speaks.
      among_more parts c.loop-j.self c.holds_with_first.new.self c.args.moving c.args.w c.holds_with_first.ensures.grows c.in-Some.h c.loop-j.j c.in-Some.ensures.is.0 c.in-Some.ensures.is.1 (c.loop-j.invariant.held parts speaks)
      (c.holds_with_first.ensures.held c.if-not-holds_with_first.false parts speaks);
}

pub returns-in_default-clause-held : goal.returns-in_default-clause-held
returns-in_default-clause-held g c told parts d speaks some =
    held_everywhere parts (g.S.PairSource.pairs c.args.source.now) (g.S.PairSource.speaks c.args.source.now) c.loop-j.self c.loop-j.invariant.core speaks c.args.moving c.args.w d c.loop-j.j (c.pairs-pairs.ensures.parts parts speaks)
    (c.loop-j.invariant.held parts speaks) c.in_default.ensures.is some

pub returns-then-not-holds_with_first-clause-grows : goal.returns-then-not-holds_with_first-clause-grows
returns-then-not-holds_with_first-clause-grows g c = grows_further c.args.self.now c.loop-j.self c.holds_with_first.new.self c.loop-j.invariant.grows c.holds_with_first.ensures.grows

pub returns-clause-held : goal.returns-clause-held
returns-clause-held g c told parts d speaks some =
    held_everywhere parts (g.S.PairSource.pairs c.args.source.now) (g.S.PairSource.speaks c.args.source.now) c.loop-j.self c.loop-j.invariant.core speaks c.args.moving c.args.w d c.loop-j.j (c.pairs-pairs.ensures.parts parts speaks)
    (c.loop-j.invariant.held parts speaks) (le_trans (few_planes c.loop-j.self c.loop-j.invariant.core.room) c.loop-j-test.false) some
