-- The splits of a plan in the order in which they are done, and the first that is too far.
use Rattle.std.specs.Prelude.{◌≡◌, ◌+◌, ◌++◌, ℕ, List, [], ◌∷◌, All, Contains, Result, Ok, Err}
use Rattle.std.specs.Prelude.{Some, slice_get, if◌then◌else◌}
use Rattle.std.specs.FinSet as set
use Rattle.staat_vec.specs.declared.vector.V3.{V3}
use Rattle.staat_vec.specs.Vectors.{IsWithin, origin, plus, times}
use Rattle.staat_vec.specs.Lists.{IsFirst}
use Rattle.staat_model.specs.declared.assembly.Part.{Part}
use Rattle.staat_model.specs.Plans.{Plan, leaf, split, parts_of}
use Rattle.staat_explode.specs.declared.boxes.Bounds.{Bounds}
use Rattle.staat_explode.specs.declared.shifted.Shifted.{Shifted}
use Rattle.staat_explode.specs.declared.grow.TheConstants.{FARTHEST}
use Rattle.staat_explode.specs.declared.refusal.ExplodeRefusal.{ExplodeRefusal}
use Rattle.staat_explode.specs.declared.refusal.ExplodeRefusal.TheVariants.{TooFar, OutOfMemory}
use Rattle.staat_explode.specs.Boxes.{boxes_of}
use Rattle.staat_explode.specs.Shifts.{shifted_of, shifts_of}

-- a split, and its number among all nodes in preorder
pub record SplitAt : Type 0 where
  pub node : ℕ
  pub d : V3
  pub moved : Plan
  pub rest : Plan

-- how many nodes a plan has, leaves too
abbrev pub node_count : Plan → ℕ
node_count (leaf p) = 1
node_count (split d moved rest) = 1 + node_count moved + node_count rest

-- the splits in the order in which they are done, where the plan's first node has this number: a split is done after
-- its moved subtree and then its resting subtree are
abbrev pub splits_from : ℕ → Plan → List SplitAt
splits_from node (leaf p) = []
splits_from node (split d moved rest) =
    splits_from (node + 1) moved
    ++ (splits_from (node + 1 + node_count moved) rest
    ++ record { node = node; d = d; moved = moved; rest = rest } ∷ [])

-- some part's vector is too great
abbrev pub HasFar : List Shifted → Type 0
HasFar ps = (p : Shifted) × Contains ps p × (IsWithin FARTHEST p.by → ⊥)

-- once the split is done, some part's vector is too great
abbrev pub IsFar : List Bounds → SplitAt → Type 0
IsFar boxes s = HasFar (shifted_of boxes (split s.d s.moved s.rest))

-- no split is too far
abbrev pub AllNear : List Bounds → ℕ → Plan → Type 0
AllNear boxes node plan = All (λ s. IsFar boxes s → ⊥) (splits_from node plan)

-- the first split to be done that is too far has number k
pub record IsTooFarAt (boxes : List Bounds) (node : ℕ) (plan : Plan) (k : ℕ) : Type 0 where
  pub s : SplitAt
  pub first : IsFirst (IsFar boxes) (splits_from node plan) s
  pub is : k ≡ s.node

-- a refusal for a node of which P holds, or for want of memory
abbrev pub IsRefused : (ℕ → Type 0) → ExplodeRefusal → Type 0
IsRefused P (TooFar k) = P k
IsRefused P OutOfMemory = Unit {0}

-- the vectors of the parts, or the first split that is too far, unless memory ran out
abbrev pub Explodes : List Part → Plan → Result (List V3) ExplodeRefusal → Type 0
Explodes parts plan (Ok shifts) = (shifts ≡ shifts_of parts plan) × AllNear (boxes_of parts) 0 plan
Explodes parts plan (Err refusal) = IsRefused (IsTooFarAt (boxes_of parts) 0 plan) refusal

-- m times the direction, where the part is on the moved side
abbrev pub step_of : (SplitAt → ℕ) → ℕ → SplitAt → V3
step_of m part s = if set.contains (parts_of s.moved) part then times (m s) s.d else origin

-- the sum of these over splits
abbrev pub sum_of : (SplitAt → ℕ) → ℕ → List SplitAt → V3
sum_of m part [] = origin
sum_of m part (s ∷ ss) = plus (step_of m part s) (sum_of m part ss)

-- with one number for each split, the vector of each part is the sum of these multiples of the directions
pub record AreSums (plan : Plan) (shifts : List V3) : Type 0 where
  pub m : SplitAt → ℕ
  pub each : (part : ℕ) (v : V3) → slice_get shifts part ≡ Some v → v ≡ sum_of m part (splits_from 0 plan)
