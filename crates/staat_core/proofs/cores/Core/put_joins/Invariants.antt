use Rattle.std.proofs.Common.{List}
use Rattle.staat_model.specs.declared.assembly.Part.{Part}
use Rattle.staat_graph.specs.Graphs.{AreReversed}
use Rattle.staat_core.specs.Cores.{AreLeading, core_pairs}
use Rattle.staat_core.proofs.cores.Core.put_joins.Given as goal

abbrev pub invariant-loop-pair : goal.invariant-loop-pair
invariant-loop-pair g l = record {
  reversed : AreReversed l.joins.ahead.rows l.joins.back.rows;
  leads : (parts : List Part) → g.S.PairSource.speaks l.source parts → AreLeading parts (core_pairs l.self) l.heading.d l.joins.ahead.rows;
}
