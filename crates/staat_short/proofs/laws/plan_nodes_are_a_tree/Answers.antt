use Rattle.staat_short.proofs.PlanTrees.{no_groups, one_tree}
use Rattle.staat_short.proofs.laws.plan_nodes_are_a_tree.Goals as goal

pub returns-clause-tree : goal.returns-clause-tree
returns-clause-tree c = one_tree

pub returns-clause-ungrouped : goal.returns-clause-ungrouped
returns-clause-ungrouped c = no_groups
