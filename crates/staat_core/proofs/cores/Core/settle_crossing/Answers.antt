use Rattle.std.proofs.Common.{sym, subst, ◌∙◌}
use Rattle.staat_core.specs.Cores.{core_pairs}
use Rattle.staat_core.specs.Moves.{HoldsMoves}
use Rattle.staat_core.specs.Sources.{both_ways}
use Rattle.staat_core.proofs.Growing.{grows_not}
use Rattle.staat_core.proofs.cores.Core.settle_crossing.Goals as goal

pub returns-then-is_same-clause-grows : goal.returns-then-is_same-clause-grows
returns-then-is_same-clause-grows g c = grows_not c.args.self.now

pub returns-then-is_same-clause-held : goal.returns-then-is_same-clause-held
returns-then-is_same-clause-held g c told parts speaks apart = absurd (apart (sym c.cross_normal-d.ensures.value ∙ c.is_same.ensures.0 c.if-is_same.true))

pub returns-clause-held : goal.returns-clause-held
returns-clause-held g c told parts speaks apart =
    subst (HoldsMoves parts (both_ways (core_pairs c.settle.new.self)) c.args.moving c.args.w) c.cross_normal-d.ensures.value (c.settle.ensures.held told parts speaks)
