use Rattle.std.proofs.Common.{◌≡◌, All, length}
use Rattle.staat_decide.specs.Asking.{AreAskedRows}
use Rattle.staat_decide.specs.Keeping.{AreKept}
use Rattle.staat_decide.proofs.asking.ask_along.Given as goal

abbrev pub invariant-loop-d : goal.invariant-loop-d
invariant-loop-d g l = record {
  asked : All (AreAskedRows l.scene.parts.now) l.asked.items;
  some : length l.table.items ≡ length l.initial.table.items;
  kept : AreKept l.scene.parts.now l.table.items;
}
