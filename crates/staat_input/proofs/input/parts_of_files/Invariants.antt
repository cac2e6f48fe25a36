use Rattle.std.proofs.Common.{◌≡◌, map, take}
use Rattle.staat_input.specs.Inputs.{alone}
use Rattle.staat_input.proofs.input.parts_of_files.Given as goal

abbrev pub invariant-loop-name : goal.invariant-loop-name
invariant-loop-name l = l.listing.items ≡ map alone (take l.name-index l.names)
