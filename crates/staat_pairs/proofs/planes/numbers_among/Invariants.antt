use Rattle.std.proofs.Common.{take}
use Rattle.staat_pairs.specs.PlaneNumbers.{ArePlacesBy}
use Rattle.staat_pairs.proofs.planes.numbers_among.Given as goal

abbrev pub invariant-loop-n : goal.invariant-loop-n
invariant-loop-n l = ArePlacesBy (λ n. n) l.planes (take l.n-index l.listed) l.numbers.items
