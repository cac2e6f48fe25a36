-- Boxes that stand apart.
use Rattle.std.specs.Prelude.{◌≡◌, ◌≢◌, ◌⊎◌, ◌<ℤ◌, ◌≤ℤ◌, ℕ, List, Some, slice_get}
use Rattle.staat_vec.specs.declared.vector.V3.{V3}
use Rattle.staat_vec.specs.Vectors.{plus}
use Rattle.staat_model.specs.declared.assembly.Part.{Part}
use Rattle.staat_explode.specs.declared.axis.Axis.{Axis}
use Rattle.staat_explode.specs.declared.boxes.Bounds.{Bounds}
use Rattle.staat_explode.specs.Boxes.{boxes_of, component}
use Rattle.staat_explode.specs.Shifts.{box_at}

-- the box, moved by a vector
abbrev pub moved_box : Bounds → V3 → Bounds
moved_box b v = record { low = plus b.low v; high = plus b.high v }

-- the point is in the box
abbrev pub IsIn : Bounds → V3 → Type 0
IsIn b x = (axis : Axis) → (component axis b.low ≤ℤ component axis x)
    × (component axis x ≤ℤ component axis b.high)

-- in some component all of one box comes before all of the other, so that they have no point in common
abbrev pub AreParted : Bounds → Bounds → Type 0
AreParted a b = (axis : Axis)
    × ((component axis a.high <ℤ component axis b.low) ⊎ (component axis b.high <ℤ component axis a.low))

-- the boxes of any two parts, each moved by its part's vector, are parted
abbrev pub StandApart : List Part → List V3 → Type 0
StandApart parts shifts =
    (p q : ℕ) (v w : V3) → slice_get shifts p ≡ Some v → slice_get shifts q ≡ Some w → p ≢ q
    → AreParted (moved_box (box_at (boxes_of parts) p) v) (moved_box (box_at (boxes_of parts) q) w)
