use Rattle.std.proofs.Common.{◌≡◌, ◌≤◌, ◌*◌, take}
use Rattle.staat_text.specs.Parts.{pieces_at, point_count}
use Rattle.staat_text.proofs.parts.point_count.Given as goal

abbrev pub invariant-loop-i : goal.invariant-loop-i
invariant-loop-i l = record {
  so_far : l.count ≡ point_count (take l.i (pieces_at l.assembly l.a));
  small : l.count ≤ l.i * 64;
}
