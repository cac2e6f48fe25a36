-- Plans for two hands, and sets of parts that no plan takes apart.
use Rattle.std.specs.Prelude.{◌≡◌, ℕ, ◌≤◌, List}
use Rattle.std.specs.FinSet as set
use Rattle.staat_vec.specs.declared.vector.V3.{V3}
use Rattle.staat_model.specs.declared.assembly.Part.{Part}
use Rattle.staat_model.specs.declared.set.PartSet.{PartSet}
use Rattle.staat_model.specs.declared.tree.Tree.{Tree, Leaf, Split'}
use Rattle.staat_model.specs.Meeting.{Meets}
use Rattle.staat_model.specs.Removal.{IsFree, IsFreeBy}
use Rattle.staat_model.specs.Sets.{AreApart, IsSide, single}

-- a plan, as a value: a part by itself, or one side that moves along d, and the plans of that side and of the rest
pub data Plan : Type 0 where
  leaf : (part : ℕ) → Plan
  split : (d : V3) → (moved rest : Plan) → Plan

-- the plan that a `Tree` holds, without where it lies in memory
abbrev pub plan_of : Tree → Plan
plan_of (Leaf p) = leaf p
plan_of (Split' d p moved q rest) = split d (plan_of moved) (plan_of rest)

-- the parts at the leaves
abbrev pub parts_of : Plan → PartSet
parts_of (leaf p) = single p
parts_of (split d moved rest) = set.union (parts_of moved) (parts_of rest)

-- the plan takes the set w apart: at each split the moved side is free of the rest along the direction, the sides
-- have no part in common, and together they are what is split
abbrev pub IsGood : List Part → PartSet → Plan → Type 0
IsGood parts w (leaf p) = w ≡ single p
IsGood parts w (split d moved rest) =
    (w ≡ set.union (parts_of moved) (parts_of rest))
    × AreApart (parts_of moved) (parts_of rest)
    × IsFree parts (parts_of moved) (parts_of rest) d
    × IsGood parts (parts_of moved) moved
    × IsGood parts (parts_of rest) rest

-- the set has at least two parts, and no side of it is free of the rest along any direction
pub record IsStuckBy (R : List V3 → List V3 → V3 → Type 0) (parts : List Part) (w : PartSet) : Type 0 where
  pub two : 2 ≤ set.len w
  pub held : (s : PartSet) (d : V3) → IsSide w s → IsFreeBy R parts s (set.difference w s) d → ⊥

abbrev pub IsStuck : List Part → PartSet → Type 0
IsStuck = IsStuckBy Meets
