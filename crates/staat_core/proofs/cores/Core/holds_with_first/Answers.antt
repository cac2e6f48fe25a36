use Rattle.std.proofs.Common.{arith}
use Rattle.staat_core.proofs.Growing.{grows_further, grows_not}
use Rattle.staat_core.proofs.Holding.{with_all, with_first_more}
use Rattle.staat_core.proofs.cores.Core.holds_with_first.Goals as goal

pub loop-k-init : goal.loop-k-init
loop-k-init g c = record { core = c.requires.core; grows = grows_not c.args.self.now; held = λ parts speaks i lt. absurd (omega arith) }

pub loop-k-preserved : goal.loop-k-preserved
loop-k-preserved g c = record {
  core = c.settle_crossing.ensures.core;
  grows = grows_further c.args.self.now c.loop-k.self c.settle_crossing.new.self c.loop-k.invariant.grows c.settle_crossing.ensures.grows;
  held = λ parts speaks.
      with_first_more parts c.loop-k.self c.settle_crossing.new.self c.args.moving c.args.w c.settle_crossing.ensures.grows c.args.g c.in-Some.h c.loop-k.k c.in-Some.ensures.is.0 c.in-Some.ensures.is.1 (c.loop-k.invariant.held parts speaks)
      (c.settle_crossing.ensures.held c.if-not-settle_crossing.false parts speaks);
}

pub returns-in_default-clause-held : goal.returns-in_default-clause-held
returns-in_default-clause-held g c told parts speaks = with_all parts c.loop-k.self c.args.moving c.args.w c.args.g c.loop-k.k c.args.n c.in_default.ensures.is (c.loop-k.invariant.held parts speaks)

pub returns-then-not-settle_crossing-clause-grows : goal.returns-then-not-settle_crossing-clause-grows
returns-then-not-settle_crossing-clause-grows g c = grows_further c.args.self.now c.loop-k.self c.settle_crossing.new.self c.loop-k.invariant.grows c.settle_crossing.ensures.grows

pub returns-clause-held : goal.returns-clause-held
returns-clause-held g c told parts speaks i lt = c.loop-k.invariant.held parts speaks i (let past = c.loop-k-test.false in omega (arith, lt, past))
