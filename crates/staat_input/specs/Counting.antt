-- The planes of all parts.
use Rattle.std.specs.Prelude.{◌≡◌, ◌<◌, ◌≤◌, ℕ, List, length, Ok, Err}
use Rattle.staat_vec.specs.declared.vector.V3.{V3}
use Rattle.staat_model.specs.declared.assembly.Part.{Part}
use Rattle.staat_model.specs.declared.set.PartSet.{PartSet}
use Rattle.staat_model.specs.Planes.{ArePlanes}
use Rattle.staat_model.specs.Sets.{below}
use Rattle.staat_fault.specs.declared.fault.Fault.TheVariants.{TooManyPlanes}
use Rattle.staat_input.specs.Work.{Found}

-- the set of all parts
abbrev pub all_parts : List Part → PartSet
all_parts parts = below (length parts)

-- What the step finds that counts the planes of all parts: too many of them, or these.
pub data AreCounted (parts : List Part) (limit : ℕ) : Found (List V3) → Type 0 where
  too_many : {found : Found (List V3)} (planes : List V3) → ArePlanes parts (all_parts parts) planes →
      limit < length planes → found ≡ Err (TooManyPlanes (length planes)) → AreCounted parts limit found
  few : {found : Found (List V3)} (planes : List V3) → ArePlanes parts (all_parts parts) planes →
      length planes ≤ limit → found ≡ Ok planes → AreCounted parts limit found
