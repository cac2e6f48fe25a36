use Rattle.staat_core.proofs.Holding.{held_on_plane}
use Rattle.staat_core.proofs.cores.Core.holds_on.Goals as goal

pub returns-clause-held : goal.returns-clause-held
returns-clause-held g c told parts d speaks some on d_some =
    held_on_plane parts (g.S.PairSource.pairs c.args.source.now) (g.S.PairSource.speaks c.args.source.now) c.holds_with_first.new.self c.holds_with_first.ensures.core speaks c.args.moving c.args.w c.args.g d
    (c.pairs-pairs.ensures.parts parts speaks) (c.holds_with_first.ensures.held told parts speaks) some on d_some
