use Rattle.std.specs.Ordering.{nat_cmp}
use Rattle.staat_vec.specs.Lists.{Lists}
use Rattle.staat_confirm.specs.Owners.{IsOwnedWithin}
use Rattle.staat_confirm.proofs.Owning.{HasBelow}
use Rattle.staat_confirm.proofs.sides.parts_within.Given as goal

abbrev pub invariant-loop-p : goal.invariant-loop-p
invariant-loop-p l = Lists nat_cmp (HasBelow (IsOwnedWithin l.owners l.from l.end) l.p) l.members.items
