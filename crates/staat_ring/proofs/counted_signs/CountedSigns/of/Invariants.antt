use Rattle.staat_ring.specs.Index.{AreToldBelow}
use Rattle.staat_ring.proofs.counted_signs.CountedSigns.of.Given as goal

abbrev pub invariant-loop-q : goal.invariant-loop-q
invariant-loop-q l = AreToldBelow l.table l.signs l.q
