use Rattle.std.proofs.lemmas.Bool.Decides.{nat_tests}
use Rattle.staat_ring.proofs.ArcLaw.{counted, some_block}
use Rattle.staat_ring.proofs.pairs.PairCounts.write.Goals as goal
use Rattle.std.proofs.Common.{rules}

pub invariant_of-self : goal.invariant_of-self
invariant_of-self c = search (rules, nat_tests, counted)

pub invariant_of-self-else-pair : goal.invariant_of-self-else-pair
invariant_of-self-else-pair c = search (rules, nat_tests, counted, some_block)
