use Rattle.std.proofs.Common.{◌≡◌, ◌≤◌, map, take}
use Rattle.staat_cells.specs.Compositions.{entry_of}
use Rattle.staat_text.specs.CellTexts.{kind_count}
use Rattle.staat_text.proofs.cells.kind_count.Given as goal

abbrev pub invariant-loop-cell : goal.invariant-loop-cell
invariant-loop-cell l = record {
  is : l.count ≡ kind_count l.kind (take l.cell-index (map entry_of l.cells));
  most : l.count ≤ l.cell-index;
}
