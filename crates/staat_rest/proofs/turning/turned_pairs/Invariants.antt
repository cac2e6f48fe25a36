use Rattle.std.proofs.Common.{◌≡◌, map, take}
use Rattle.staat_rest.specs.Turning.{original_pair}
use Rattle.staat_rest.proofs.turning.turned_pairs.Given as goal

abbrev pub invariant-loop-pair : goal.invariant-loop-pair
invariant-loop-pair l = l.turned.items ≡ map (original_pair l.origins) (take l.pair-index l.pairs)
