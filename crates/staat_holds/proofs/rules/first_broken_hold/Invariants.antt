use Rattle.std.proofs.Common.{◌≡◌}
use Rattle.staat_holds.specs.Chains.{FirstKeep, names_before}
use Rattle.staat_holds.proofs.rules.first_broken_hold.Given as goal

abbrev pub invariant-loop-k : goal.invariant-loop-k
invariant-loop-k g l = record {
  names : l.names.items ≡ names_before l.parts l.holds l.k;
  keep : FirstKeep l.parts l.holds l.k;
}
