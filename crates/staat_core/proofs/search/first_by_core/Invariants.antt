use Rattle.std.proofs.Common.{List}
use Rattle.staat_vec.specs.declared.vector.V3.{V3}
use Rattle.staat_model.specs.declared.assembly.Part.{Part}
use Rattle.staat_model.specs.Planes.{ArePlanes, vertices}
use Rattle.staat_pairs.specs.Tables.{WasMadeFrom}
use Rattle.staat_planes.specs.PairOrder.{IsPlaceIn, vertices_left}
use Rattle.staat_core.specs.TableCores.{CoreHolds, IsTableCore}
use Rattle.staat_core.specs.VertexSearch.{AreManyPassed}
use Rattle.staat_core.proofs.search.first_by_core.Given as goal

abbrev pub invariant-loop-k : goal.invariant-loop-k
invariant-loop-k g l = record {
  place : IsPlaceIn l.table.planes l.pairs;
  core : IsTableCore l.table l.core;
  held : (parts : List Part) (d : V3) → WasMadeFrom parts l.table → g.T.Trial.knows l.trial parts l.table → CoreHolds parts l.core l.w d → g.T.Trial.serves parts l.w d → ⊥;
  tried : (parts : List Part) (planes : List V3) → WasMadeFrom parts l.table → ArePlanes parts l.w planes → g.T.Trial.knows l.trial parts l.table
      → AreManyPassed (g.T.Trial.serves parts l.w) (vertices planes) (vertices_left l.table.planes l.pairs) l._k;
}
