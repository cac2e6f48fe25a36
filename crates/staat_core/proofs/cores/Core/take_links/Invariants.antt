use Rattle.staat_core.specs.Cores.{IsCore}
use Rattle.staat_core.proofs.cores.Core.take_links.Given as goal

abbrev pub invariant-loop-pair : goal.invariant-loop-pair
invariant-loop-pair g l = IsCore (g.S.PairSource.pairs l.source) (g.S.PairSource.speaks l.source) l.self
