use Rattle.std.proofs.Common.{length}
use Rattle.staat_rest.specs.Nodes.{AreShown}
use Rattle.staat_rest.proofs.CountSteps.{names_below}
use Rattle.staat_rest.proofs.rest.plan_to_groups.Given as goal

abbrev pub invariant-rounds : goal.invariant-rounds
invariant-rounds g l = AreShown l.parts l.groups.names.items l.groups.lists.items

abbrev pub decreases-rounds : goal.decreases-rounds
decreases-rounds g l = names_below l.groups.names.items (length l.parts)
