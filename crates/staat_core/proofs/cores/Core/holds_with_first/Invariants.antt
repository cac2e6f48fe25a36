use Rattle.std.proofs.Common.{List}
use Rattle.staat_model.specs.declared.assembly.Part.{Part}
use Rattle.staat_core.specs.Cores.{HasGrown, HoldsWithFirst, IsCore}
use Rattle.staat_core.proofs.cores.Core.holds_with_first.Given as goal

abbrev pub invariant-loop-k : goal.invariant-loop-k
invariant-loop-k g l = record {
  core : IsCore (g.S.PairSource.pairs l.source) (g.S.PairSource.speaks l.source) l.self;
  grows : HasGrown l.initial.self l.self;
  held : (parts : List Part) → g.S.PairSource.speaks l.source parts → HoldsWithFirst parts l.self l.moving l.w l.g l.k;
}
