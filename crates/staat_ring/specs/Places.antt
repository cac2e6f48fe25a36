-- Where one stands on rings: at a stop of a circle, and at one of its entries, by their numbers.
use Rattle.std.specs.Prelude.{◌≡◌, ℕ, ◌+◌, ◌≤◌, List, [], ◌∷◌, length, drop, Contains, Some, slice_get}
use Rattle.staat_ring.specs.declared.entry.Entry.{Entry}
use Rattle.staat_ring.specs.Rings.{Arrangement, Ring, RingStop}
use Rattle.staat_ring.specs.Numbered.{entry_number}

-- how many planes there are, linked or not
abbrev pub plane_count : Arrangement → ℕ
plane_count a = length a.rings + length a.unlinked

-- s is the stop at place m of the circle c
pub record IsStopAt (rings : List Ring) (c m : ℕ) (s : RingStop) : Type 0 where
  pub ring : Ring
  pub listed : Contains rings ring
  pub plane : ring.plane ≡ c
  pub is : slice_get ring.stops m ≡ Some s

-- P holds of the place and the stop on the circle c that has this node
abbrev pub AtNode : (rings : List Ring) (c node : ℕ)
    → ((m : ℕ) (s : RingStop) → IsStopAt rings c m s → Type 0) → Type 0
AtNode rings c node P = (m : ℕ) (s : RingStop) → (at : IsStopAt rings c m s) → s.node ≡ node → P m s at

-- some stop of the circle c has this node
pub record HasNode (rings : List Ring) (c node : ℕ) : Type 0 where
  pub place : ℕ
  pub stop : RingStop
  pub at : IsStopAt rings c place stop
  pub is : stop.node ≡ node

-- the number of the first of the entries, or the stop's node where there is none left
abbrev pub cursor : ℕ → ℕ → ℕ → List Entry → ℕ
cursor n c node [] = node
cursor n c node (e ∷ es) = entry_number n c e

-- at is the number of entry i of the stop, or its node where i is their number
pub record IsAtEntry (n c : ℕ) (s : RingStop) (i at : ℕ) : Type 0 where
  pub within : i ≤ length s.entries
  pub is : at ≡ cursor n c s.node (drop i s.entries)

-- at stands at some entry of the stop of this node, or at the node
pub record HasCursor (a : Arrangement) (c node at : ℕ) : Type 0 where
  pub stop : HasNode a.rings c node
  pub entry : ℕ
  pub here : IsAtEntry (plane_count a) c stop.stop entry at
