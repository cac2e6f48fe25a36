use Rattle.staat_core.specs.declared.joins.Moving.TheVariants.{OnePart}
use Rattle.staat_core.specs.Listed.{pairs_in_use}
use Rattle.staat_core.specs.Sources.{both_ways}
use Rattle.staat_core.proofs.TableHolding.{core_holds}
use Rattle.staat_linear.proofs.Freeing.{nothing_leaves}
use Rattle.staat_linear.proofs.step.TakingTrial.core.Goals as goal

pub returns-clause-held : goal.returns-clause-held
returns-clause-held c parts d made known holds (p, leaves) =
    nothing_leaves parts c.args.w d (both_ways (pairs_in_use c.of.result.list)) (core_holds parts c.of.result OnePart c.args.w d c.of.ensures.moving leaves.free.moves holds) p leaves
