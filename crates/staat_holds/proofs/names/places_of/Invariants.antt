use Rattle.std.proofs.Common.{◌≡◌, take}
use Rattle.staat_holds.specs.Chains.{places_of}
use Rattle.staat_holds.proofs.names.places_of.Given as goal

abbrev pub invariant-loop-name : goal.invariant-loop-name
invariant-loop-name l = l.places.items ≡ places_of l.nodes (take l.name-index l.names)
