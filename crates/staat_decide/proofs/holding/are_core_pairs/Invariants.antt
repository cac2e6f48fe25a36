use Rattle.std.proofs.Common.{ℕ, ◌<◌, get_or}
use Rattle.staat_model.specs.declared.certificate.Arc.{Arc}
use Rattle.staat_holds.specs.Holds.{IsCorePair}
use Rattle.staat_decide.proofs.holding.are_core_pairs.Given as goal

abbrev pub invariant-loop-pair : goal.invariant-loop-pair
invariant-loop-pair l = (k : ℕ) (d : Arc) → k < l.pair-index → IsCorePair l.parts l.nodes l.count (get_or l.pairs k d)
