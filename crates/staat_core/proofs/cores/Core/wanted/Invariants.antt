use Rattle.std.proofs.Common.{Contains}
use Rattle.std.specs.Prelude.{IfSome}
use Rattle.staat_core.proofs.cores.Core.wanted.Given as goal

abbrev pub invariant-loop-arc : goal.invariant-loop-arc
invariant-loop-arc g l = IfSome l.best (λ b. Contains (g.S.PairSource.pairs l.source) b.pair)
