-- Orders in which one part after another is taken away, for a hand that holds one part alone.
use Rattle.std.specs.Prelude.{◌≡◌, ℕ, ◌≤◌, List, [], ◌∷◌, All}
use Rattle.std.specs.FinSet as set
use Rattle.staat_vec.specs.declared.vector.V3.{V3}
use Rattle.staat_vec.specs.Lists.{IsFirst}
use Rattle.staat_model.specs.declared.assembly.Part.{Part}
use Rattle.staat_model.specs.declared.set.PartSet.{PartSet}
use Rattle.staat_model.specs.Planes.{ArePlanes, vertices}
use Rattle.staat_model.specs.Removal.{IsFree}
use Rattle.staat_model.specs.Sets.{Has, IsSubset, single}
use Rattle.staat_pairs.specs.Tables.{Table}
use Rattle.staat_planes.specs.Refusals.{IsTableWithin}
use Rattle.staat_linear.specs.declared.order.Leave.{Leave}
use Rattle.staat_linear.specs.declared.order.Order.{Order}
use Rattle.staat_linear.specs.declared.order.Order.TheVariants.{Whole, Locked}

-- the set without the part p
abbrev pub all_but : PartSet → ℕ → PartSet
all_but w p = set.difference w (single p)

-- the parts that leave, and then the last one, are those of w, each once
abbrev pub IsOrder : PartSet → List Leave → ℕ → Type 0
IsOrder w [] last = w ≡ single last
IsOrder w (leave ∷ leaves) last = Has w leave.part × IsOrder (all_but w leave.part) leaves last

-- each part that leaves is free, along its direction, of all parts of w that are left then
abbrev pub AreFreeInTurn : List Part → PartSet → List Leave → Type 0
AreFreeInTurn parts w [] = Unit {0}
AreFreeInTurn parts w (leave ∷ leaves) =
    IsFree parts (single leave.part) (all_but w leave.part) leave.d
    × AreFreeInTurn parts (all_but w leave.part) leaves

-- the order takes w apart, one part at a time
pub record IsGoodOrder (parts : List Part) (w : PartSet) (leaves : List Leave) (last : ℕ) : Type 0 where
  pub order : IsOrder w leaves last
  pub free : AreFreeInTurn parts w leaves

-- p is a part of w, and free along d of all others of w
pub record LeavesAlong (parts : List Part) (w : PartSet) (d : V3) (p : ℕ) : Type 0 where
  pub member : Has w p
  pub free : IsFree parts (single p) (all_but w p) d

-- w has at least two parts, and no part of it is free of the others along any direction
pub record IsLocked (parts : List Part) (w : PartSet) : Type 0 where
  pub two : 2 ≤ set.len w
  pub held : (p : ℕ) (d : V3) → Has w p → IsFree parts (single p) (all_but w p) d → ⊥

-- ---- the chosen order

-- some part of w is free of the others along d
abbrev pub LetsLeave : List Part → PartSet → V3 → Type 0
LetsLeave parts w d = (p : ℕ) × LeavesAlong parts w d p

-- the first vertex in pair order along which some part of w is free of the others, and the least such part
pub record IsLeave (parts : List Part) (w : PartSet) (leave : Leave) : Type 0 where
  pub planes : List V3
  pub planes_are : ArePlanes parts w planes
  pub first : IsFirst (LetsLeave parts w) (vertices planes) leave.d
  pub leaves : LeavesAlong parts w leave.d leave.part
  pub least : (q : ℕ) → LeavesAlong parts w leave.d q → leave.part ≤ q

-- along no vertex a part of w is free of the others
pub record HasNoLeave (parts : List Part) (w : PartSet) : Type 0 where
  pub planes : List V3
  pub planes_are : ArePlanes parts w planes
  pub none : All (λ d. LetsLeave parts w d → ⊥) (vertices planes)

-- the order with this step before it; a set that is locked is locked after each step
abbrev pub after : Leave → Order → Order
after leave (Whole leaves last) = Whole (leave ∷ leaves) last
after leave (Locked a) = Locked a

-- The chosen order of w: a part by itself is the last one; where no part can leave, w is locked; else the chosen part
-- leaves, and it goes on with the others.
pub data IsChosen (parts : List Part) : PartSet → Order → Type 0 where
  one_part : {w : PartSet} {p : ℕ} → w ≡ single p → IsChosen parts w (Whole [] p)
  no_leave : {w : PartSet} → 2 ≤ set.len w → HasNoLeave parts w → IsChosen parts w (Locked w)
  then_on : {w : PartSet} {leave : Leave} {rest order : Order} → 2 ≤ set.len w → IsLeave parts w leave
      → IsChosen parts (all_but w leave.part) rest → order ≡ after leave rest → IsChosen parts w order

-- the order is good for w; or the set that is named lies in w and is locked
abbrev pub SettlesOrder : List Part → PartSet → Order → Type 0
SettlesOrder parts w (Whole leaves last) = IsGoodOrder parts w leaves last
SettlesOrder parts w (Locked a) = IsSubset a w × IsLocked parts a

-- a table of the parts of w has no more planes than the limit
abbrev pub HasTableWithin : List Part → PartSet → ℕ → Type 0
HasTableWithin parts w limit = (t : Table) × IsTableWithin parts w limit t
