use Rattle.std.proofs.Common.{All, List, take}
use Rattle.staat_model.specs.{Outcomes.Serves, declared.assembly.Part.Part}
use Rattle.staat_pairs.specs.Tables.{WasMadeFrom}
use Rattle.staat_cells.specs.declared.cell.Cell.{Cell}
use Rattle.staat_plan.proofs.cell_steps.step_among.Given as goal

-- none of the cells that were passed serves
abbrev pub invariant-loop-cell : goal.invariant-loop-cell
invariant-loop-cell l = (parts : List Part) → WasMadeFrom parts l.table
    → All (λ (c : Cell). Serves parts l.table.of c.d → ⊥) (take l.cell-index l.cells)
