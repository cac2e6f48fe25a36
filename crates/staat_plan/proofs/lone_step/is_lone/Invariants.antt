use Rattle.std.proofs.Common.{◌≡◌, List, take}
use Rattle.staat_model.specs.declared.assembly.Part.{Part}
use Rattle.staat_pairs.specs.Tables.{WasMadeFrom}
use Rattle.staat_core.specs.{TableCores.IsTableCore, declared.joins.Moving.TheVariants.AnySide}
use Rattle.staat_plan.specs.LoneLines.{OnlyPlanesThroughServe}
use Rattle.staat_plan.proofs.lone_step.is_lone.Given as goal

-- each plane that was passed passes through v, or no direction on it serves
abbrev pub invariant-loop-n : goal.invariant-loop-n
invariant-loop-n l = record {
  core : IsTableCore l.table l.core;
  moving : l.core.moving ≡ AnySide;
  passed : (parts : List Part) → WasMadeFrom parts l.table
      → OnlyPlanesThroughServe parts l.w (take l.n-index l.planes) l.v;
}
