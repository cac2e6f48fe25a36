use Rattle.std.proofs.Common.{subst, sym, List}
use Rattle.std.specs.Prelude.{replicate}
use Rattle.staat_ring.specs.declared.pairs.PairCount.{PairCount}
use Rattle.staat_ring.specs.Pairs.{CountBlocks, no_pair}
use Rattle.staat_ring.proofs.ArcLaw.{counted_start}
use Rattle.staat_ring.proofs.pairs.PairCounts.new.Goals as goal

pub invariant_of-result : goal.invariant_of-result
invariant_of-result c =
    subst (λ (xs : List PairCount). CountBlocks xs c.in_ok-blocked.blocked) (sym (c.in_ok-pairs.ensures.items_if_clones_equal (λ y e. e)))
    (subst (CountBlocks (replicate c.args.count no_pair)) (sym c.in_ok-blocked.ensures) (counted_start c.args.count c.requires))
