use Rattle.std.proofs.Common.{◌≡◌, map, take}
use Rattle.staat_ring.specs.Builds.{key_entry}
use Rattle.staat_ring.proofs.keys.entries_of.Given as goal

abbrev pub invariant-loop-key : goal.invariant-loop-key
invariant-loop-key l = l.entries.items ≡ map key_entry (take l.key-index l.keys)
