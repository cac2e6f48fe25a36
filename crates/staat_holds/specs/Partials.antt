-- Plans that take parts apart down to sets that are stuck.
use Rattle.std.specs.Prelude.{◌≡◌, ◌⊎◌, ℕ, ◌<◌, ◌≤◌, List, All, length}
use Rattle.std.specs.FinSet as set
use Rattle.std.specs.List.Sorted.{IsStrictlySortedBy}
use Rattle.std.specs.Ordering.{nat_cmp}
use Rattle.staat_vec.specs.declared.vector.V3.{V3}
use Rattle.staat_vec.specs.declared.vector.TheConstants.{DIRECTION}
use Rattle.staat_vec.specs.Lists.{Lists}
use Rattle.staat_vec.specs.Vectors.{IsWithin}
use Rattle.staat_model.specs.declared.assembly.Part.{Part}
use Rattle.staat_model.specs.declared.set.PartSet.{PartSet}
use Rattle.staat_model.specs.Certificates.{arc_cmp}
use Rattle.staat_model.specs.Plans.{IsStuck, Plan, leaf, split}
use Rattle.staat_model.specs.Removal.{IsFree}
use Rattle.staat_model.specs.SetLists.{set_of}
use Rattle.staat_model.specs.Sets.{AreApart, below, single}
use Rattle.staat_holds.specs.declared.hold.Hold.{Hold}
use Rattle.staat_holds.specs.declared.grouped.Group.{Group as GroupValue}
use Rattle.staat_holds.specs.declared.grouped.GroupedTree.{GroupedTree, Leaf, Group, Split'}
use Rattle.staat_holds.specs.Chains.{AllKeep, IsJoinedLast}

-- a plan that may end in sets of parts: a part by itself, a set that stays together, or one side that moves along d,
-- and the plans of that side and of the rest
pub data PartialPlan : Type 0 where
  alone : (part : ℕ) → PartialPlan
  together : (w : PartSet) → PartialPlan
  parted : (d : V3) → (moved rest : PartialPlan) → PartialPlan

-- the partial plan that a `GroupedTree` holds
abbrev pub partial_of : GroupedTree → PartialPlan
partial_of (Leaf p) = alone p
partial_of (Group group) = together (set_of group.members)
partial_of (Split' d p moved q rest) = parted d (partial_of moved) (partial_of rest)

-- the parts at its ends
abbrev pub parts_in : PartialPlan → PartSet
parts_in (alone p) = single p
parts_in (together w) = w
parts_in (parted d moved rest) = set.union (parts_in moved) (parts_in rest)

-- the plan takes the set w apart down to its sets: at each step the moved side is free of the rest along the direction,
-- the sides have no part in common, and together they are what is parted; and each set at an end is stuck
abbrev pub IsGoodPartial : List Part → PartSet → PartialPlan → Type 0
IsGoodPartial parts w (alone p) = w ≡ single p
IsGoodPartial parts w (together s) = (w ≡ s) × IsStuck parts s
IsGoodPartial parts w (parted d moved rest) =
    (w ≡ set.union (parts_in moved) (parts_in rest))
    × AreApart (parts_in moved) (parts_in rest)
    × IsFree parts (parts_in moved) (parts_in rest) d
    × IsGoodPartial parts (parts_in moved) moved
    × IsGoodPartial parts (parts_in rest) rest

-- some end of the plan is a set
abbrev pub HasTogether : PartialPlan → Type 0
HasTogether (alone p) = ⊥
HasTogether (together w) = Unit {0}
HasTogether (parted d moved rest) = HasTogether moved ⊎ HasTogether rest

-- ---- directions

-- the directions of a plan are not too great
abbrev pub HasSmallDirections : Plan → Type 0
HasSmallDirections (leaf p) = Unit {0}
HasSmallDirections (split d moved rest) =
    IsWithin DIRECTION d × HasSmallDirections moved × HasSmallDirections rest

-- the same of one that may end in sets
abbrev pub HasSmallSteps : PartialPlan → Type 0
HasSmallSteps (alone p) = Unit {0}
HasSmallSteps (together w) = Unit {0}
HasSmallSteps (parted d moved rest) = IsWithin DIRECTION d × HasSmallSteps moved × HasSmallSteps rest

-- ---- groups

-- its nodes ascend; of each pair the first part is the lesser one; and the pairs ascend
pub record IsOrderedHold (hold : Hold) : Type 0 where
  pub nodes : IsStrictlySortedBy nat_cmp hold.nodes
  pub lesser : All (λ pair. pair.a < pair.b) hold.pairs
  pub pairs : IsStrictlySortedBy arc_cmp hold.pairs

-- the holds, one at least, are in order and keep the rules, and the last of them joins the members
pub record IsShownGroup (parts : List Part) (group : GroupValue) : Type 0 where
  pub some : 1 ≤ length group.holds
  pub ordered : All IsOrderedHold group.holds
  pub keep : AllKeep parts group.holds
  pub members : Lists nat_cmp (IsJoinedLast parts group.holds) group.members

-- so is each group of a tree
abbrev pub HasShownGroups : List Part → GroupedTree → Type 0
HasShownGroups parts (Leaf p) = Unit {0}
HasShownGroups parts (Group group) = IsShownGroup parts group
HasShownGroups parts (Split' d p moved q rest) = HasShownGroups parts moved × HasShownGroups parts rest

-- the tree takes all parts apart down to its groups, each of which is shown
pub record IsShownRest (parts : List Part) (tree : GroupedTree) : Type 0 where
  pub good : IsGoodPartial parts (below (length parts)) (partial_of tree)
  pub groups : HasShownGroups parts tree
  pub directions : HasSmallSteps (partial_of tree)
