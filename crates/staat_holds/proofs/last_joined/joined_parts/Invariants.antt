use Rattle.std.proofs.Common.{◌≡◌}
use Rattle.std.specs.Ordering.{nat_cmp}
use Rattle.staat_vec.specs.Lists.{Lists}
use Rattle.staat_holds.specs.Chains.{IsJoinedAt, names_before}
use Rattle.staat_holds.proofs.last_joined.joined_parts.Given as goal

abbrev pub invariant-loop-k : goal.invariant-loop-k
invariant-loop-k l = record {
  names : l.names.items ≡ names_before l.parts l.holds l.k;
  members : Lists nat_cmp (IsJoinedAt l.parts l.holds l.k) l.members.items;
}
