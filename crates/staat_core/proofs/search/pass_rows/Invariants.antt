use Rattle.std.proofs.Common.{List}
use Rattle.staat_vec.specs.declared.vector.V3.{V3}
use Rattle.staat_model.specs.declared.assembly.Part.{Part}
use Rattle.staat_pairs.specs.Tables.{WasMadeFrom}
use Rattle.staat_planes.specs.PairOrder.{IsPlaceIn, vertices_left}
use Rattle.staat_core.specs.TableCores.{CoreHolds, IsTableCore}
use Rattle.staat_core.specs.VertexSearch.{ArePassed}
use Rattle.staat_core.proofs.search.pass_rows.Given as goal

abbrev pub invariant-loop-k : goal.invariant-loop-k
invariant-loop-k l = record {
  place : IsPlaceIn l.table.planes l.pairs;
  core : IsTableCore l.table l.core;
  kept : (parts : List Part) (d : V3) → CoreHolds parts l.core l.w d → CoreHolds parts l.initial.core l.w d;
  passed : (parts : List Part) → WasMadeFrom parts l.table
      → ArePassed (λ d. CoreHolds parts l.initial.core l.w d → ⊥) (vertices_left l.table.planes l.initial.pairs) (vertices_left l.table.planes l.pairs);
}
