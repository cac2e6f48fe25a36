-- The text of a plan that may end in sets that are stuck.
use Rattle.std.specs.Prelude.{◌++◌, ◌∷◌, [], ℕ, ◌+◌, ◌<◌, pos, List, codes}
use Rattle.std.specs.List.Sorted.{IsStrictlySortedBy}
use Rattle.std.specs.Ordering.{nat_cmp}
use Rattle.staat_limits.specs.declared.limits.TheConstants.{MOST_PRODUCT_PARTS}
use Rattle.staat_model.specs.Lines.{spaced}
use Rattle.staat_model.specs.Outcomes.{stuck}
use Rattle.staat_model.specs.Sets.{Has}
use Rattle.staat_holds.specs.declared.grouped.GroupedTree.{GroupedTree, Leaf, Group, Split'}
use Rattle.staat_holds.specs.Partials.{PartialPlan, alone, parted, partial_of, parts_in, together}
use Rattle.staat_text.specs.PlanTexts.{move_line, plan_text}

-- the number of steps
abbrev pub steps_in : PartialPlan → ℕ
steps_in (alone p) = 0
steps_in (together w) = 0
steps_in (parted d moved rest) = 1 + steps_in moved + steps_in rest

-- a line for each step, in preorder
abbrev pub step_lines : PartialPlan → List ℕ
step_lines (alone p) = []
step_lines (together w) = []
step_lines (parted d moved rest) =
    move_line (parts_in moved) d (parts_in rest) [] ++ step_lines moved ++ step_lines rest

-- a line for each set that stays together, in preorder
abbrev pub stuck_lines : PartialPlan → List ℕ
stuck_lines (alone p) = []
stuck_lines (together w) = plan_text (stuck w)
stuck_lines (parted d moved rest) = stuck_lines moved ++ stuck_lines rest

-- the steps, the sets that are stuck, and the number of steps
abbrev pub rest_text : PartialPlan → List ℕ
rest_text plan = step_lines plan ++ stuck_lines plan ++ codes "moves" ++ spaced (pos (steps_in plan) ∷ [])

-- ---- what can be written

-- its parts are some that a product can have
abbrev pub HasSmallParts : PartialPlan → Type 0
HasSmallParts plan = (p : ℕ) → Has (parts_in plan) p → p < MOST_PRODUCT_PARTS

-- the members of each group ascend
abbrev pub HasAscendingGroups : GroupedTree → Type 0
HasAscendingGroups (Leaf p) = Unit {0}
HasAscendingGroups (Group group) = IsStrictlySortedBy nat_cmp group.members
HasAscendingGroups (Split' d p moved q rest) = HasAscendingGroups moved × HasAscendingGroups rest

-- besides, it has fewer steps than a product can have parts
pub record CanBeWritten (tree : GroupedTree) : Type 0 where
  pub small : HasSmallParts (partial_of tree)
  pub few : steps_in (partial_of tree) < MOST_PRODUCT_PARTS
  pub ascending : HasAscendingGroups tree
