use Rattle.std.proofs.Common.{◌≡◌, length, take}
use Rattle.staat_decide.specs.Arcs.{IsRow}
use Rattle.staat_decide.specs.Keeping.{AreKept}
use Rattle.staat_decide.proofs.arcs.row_of.Given as goal

abbrev pub invariant-loop-b : goal.invariant-loop-b
invariant-loop-b g l = record {
  row : IsRow l.view.parts.now l.view.along.now.d (take l.b-index l.w) l.a l.row.items;
  some : length l.table.items ≡ length l.initial.table.items;
  kept : AreKept l.view.parts.now l.table.items;
}
