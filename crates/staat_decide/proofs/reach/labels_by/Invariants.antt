use Rattle.std.proofs.Common.{◌≡◌, map, take}
use Rattle.staat_decide.specs.Reaching.{label_of}
use Rattle.staat_decide.proofs.reach.labels_by.Given as goal

abbrev pub invariant-loop-is_marked : goal.invariant-loop-is_marked
invariant-loop-is_marked l = l.labels.items ≡ map (label_of l.way) (take l.is_marked-index l.marks)
