use Rattle.std.proofs.Common.{List}
use Rattle.staat_model.specs.declared.assembly.Part.{Part}
use Rattle.staat_graph.specs.Graphs.{AreReversed}
use Rattle.staat_core.specs.Cores.{AreLeading, HasGrown, IsCore, core_pairs}
use Rattle.staat_core.proofs.cores.Core.grow_at.Given as goal

abbrev pub invariant-loop-k : goal.invariant-loop-k
invariant-loop-k g l = record {
  core : IsCore (g.S.PairSource.pairs l.source) (g.S.PairSource.speaks l.source) l.self;
  grows : HasGrown l.fn.self l.self;
  reversed : AreReversed l.joins.ahead.rows l.joins.back.rows;
  leads : (parts : List Part) → g.S.PairSource.speaks l.source parts → AreLeading parts (core_pairs l.self) l.heading.d l.joins.ahead.rows;
}
