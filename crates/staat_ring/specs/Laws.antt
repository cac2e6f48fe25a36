-- What the laws on rings speak of: lists of unlinks and relinks, the circles of a set of parts, and a walk on them.
use Rattle.std.specs.Prelude.{◌≡◌, ◌↔◌, ℕ, ◌≤◌, List, [], ◌∷◌, All, Contains, Some, slice_get}
use Rattle.staat_vec.specs.declared.vector.V3.{V3}
use Rattle.staat_model.specs.declared.assembly.Part.{Part}
use Rattle.staat_model.specs.declared.set.PartSet.{PartSet}
use Rattle.staat_model.specs.Sets.{IsSubset}
use Rattle.staat_pairs.specs.Tables.{IsTable, Table, WasMadeFrom}
use Rattle.staat_planes.specs.Tables.{IsPlaneOf}
use Rattle.staat_ring.specs.Belonging.{HasAll, HoldSigns}
use Rattle.staat_ring.specs.Rings.{Arrangement, IsRingOf, linked_of}
use Rattle.staat_ring.specs.Walked.{WalkWasMadeFrom, Walked}
use Rattle.staat_ring.specs.Without.{IsRelinked, IsUnlinked}

-- the planes of the list are unlinked, one after another
abbrev pub AreUnlinked : List ℕ → Arrangement → Arrangement → Type 0
AreUnlinked [] a b = a ≡ b
AreUnlinked (p ∷ ps) a b = (m : Arrangement) × IsUnlinked p a m × AreUnlinked ps m b

-- they are relinked, the last one first
abbrev pub AreRelinked : List ℕ → Arrangement → Arrangement → Type 0
AreRelinked [] a b = a ≡ b
AreRelinked (p ∷ ps) a b = (m : Arrangement) × AreRelinked ps a m × IsRelinked p m b

-- no axis is among the planes
abbrev pub HasNoAxis : List ℕ → Type 0
HasNoAxis ps = All (λ p. 3 ≤ p) ps

-- the planes are those that are no planes of w
abbrev pub AreOtherPlanes : List Part → PartSet → List V3 → List ℕ → Type 0
AreOtherPlanes parts w planes ps = (k : ℕ) (n : V3) → slice_get planes k ≡ Some n
    → (Contains ps k → ⊥) ↔ IsPlaneOf parts w n

-- the circles are those of the planes of w: these planes are linked, and no others
pub record AreRingsOfSet (parts : List Part) (w : PartSet) (planes : List V3) (a : Arrangement) : Type 0 where
  pub linked : (k : ℕ) (n : V3) → slice_get planes k ≡ Some n → Contains (linked_of a.rings) k
      ↔ IsPlaneOf parts w n
  pub circles : All (IsRingOf planes (linked_of a.rings)) a.rings

-- the walk was made from a table of the parts, and holds the signs at v of all planes of w, which are linked
pub record HoldsAllSigns (parts : List Part) (t : Table) (walk : Walked) (v : V3) (w : PartSet) : Type 0 where
  pub from : WasMadeFrom parts t
  pub table : IsTable t
  pub made : WalkWasMadeFrom t walk
  pub linked : List ℕ
  pub signs : HoldSigns t.planes linked walk.signs v
  pub within : IsSubset w t.of
  pub all : HasAll parts w t.planes linked
