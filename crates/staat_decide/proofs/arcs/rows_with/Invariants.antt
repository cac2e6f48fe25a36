use Rattle.std.proofs.Common.{◌≡◌, length, take}
use Rattle.std.specs.List.{AllZip}
use Rattle.staat_decide.specs.Arcs.{IsRow}
use Rattle.staat_decide.specs.Keeping.{AreKept}
use Rattle.staat_decide.proofs.arcs.rows_with.Given as goal

abbrev pub invariant-loop-a : goal.invariant-loop-a
invariant-loop-a g l = record {
  rows : AllZip (IsRow l.view.parts.now l.view.along.now.d l.w) (take l.a-index l.w) l.rows.items;
  some : length l.table.items ≡ length l.initial.table.items;
  kept : AreKept l.view.parts.now l.table.items;
}
