-- The nodes of a plan without groups, and those of the tree that it is. The plan that a `GroupedTree` holds.
use Rattle.std.specs.Prelude.{List, [], ◌∷◌, ◌++◌}
use Rattle.staat_model.specs.Plans.{Plan, leaf, split}
use Rattle.staat_holds.specs.declared.grouped.GroupedTree.{GroupedTree}
use Rattle.staat_holds.specs.declared.grouped.GroupedTree as tree
use Rattle.staat_short.specs.declared.short.ShortNode.{ShortNode}
use Rattle.staat_short.specs.declared.short.ShortNode.TheVariants.{Leaf, Split}
use Rattle.staat_short.specs.ShortTexts.{GroupedPlan, grouped, part_alone, taken_apart}

-- its nodes in preorder
abbrev pub plan_nodes : Plan → List ShortNode
plan_nodes (leaf p) = Leaf p ∷ []
plan_nodes (split d moved rest) = Split d ∷ (plan_nodes moved ++ plan_nodes rest)

-- the same plan as one that may end in groups
abbrev pub without_groups : Plan → GroupedPlan
without_groups (leaf p) = part_alone p
without_groups (split d moved rest) = taken_apart d (without_groups moved) (without_groups rest)

-- the plan that a `GroupedTree` holds, without where it lies in memory and the members of its groups
abbrev pub grouped_plan_of : GroupedTree → GroupedPlan
grouped_plan_of (tree.Leaf p) = part_alone p
grouped_plan_of (tree.Group group) = grouped group.holds
grouped_plan_of (tree.Split' d p moved q rest) = taken_apart d (grouped_plan_of moved) (grouped_plan_of rest)
