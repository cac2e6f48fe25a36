-- Planes that are marked.
use Rattle.std.specs.Prelude.{◌≡◌, ◌⊎◌, ◌↔◌, ℕ, ◌<◌, ◌≤◌, List, Bool, false, IsTrue, Some}
use Rattle.std.specs.Prelude.{slice_get, slice_index_or}
use Rattle.staat_vec.specs.declared.vector.V3.{V3}
use Rattle.staat_model.specs.declared.assembly.Part.{Part}
use Rattle.staat_model.specs.declared.set.PartSet.{PartSet}
use Rattle.staat_pairs.specs.Tables.{Table, WasMadeFrom}
use Rattle.staat_planes.specs.Tables.{IsPlaneOf}

-- the plane k is marked
abbrev pub IsPlaneMarked : List Bool → ℕ → Type 0
IsPlaneMarked marks k = IsTrue (slice_index_or marks k false)

-- of the planes beyond the coordinate planes those with the property are marked too, and no others
pub record AddsMarks (planes : List V3) (P : V3 → Type 0) (old new : List Bool) : Type 0 where
  pub each : (k : ℕ) (n : V3) → 3 ≤ k → slice_get planes k ≡ Some n
      → IsPlaneMarked new k ↔ (IsPlaneMarked old k ⊎ P n)

-- of the planes those of w are marked, and no others; the coordinate planes are, whatever the assembly
pub record AreUsedMarks (t : Table) (w : PartSet) (marks : List Bool) : Type 0 where
  pub axes : (k : ℕ) → k < 3 → IsPlaneMarked marks k
  pub each : (parts : List Part) (k : ℕ) (n : V3) → WasMadeFrom parts t → slice_get t.planes k ≡ Some n
      → IsPlaneMarked marks k ↔ IsPlaneOf parts w n
