-- The planes of a set of parts, from the table of a larger set.
use Rattle.std.specs.Prelude.{◌≤◌, List, length}
use Rattle.staat_vec.specs.declared.vector.V3.{V3}
use Rattle.staat_model.specs.declared.assembly.Part.{Part}
use Rattle.staat_model.specs.declared.set.PartSet.{PartSet}
use Rattle.staat_model.specs.Planes.{ArePlanes}
use Rattle.staat_pairs.specs.Tables.{AreTablePlanes, Table, WasMadeFrom}

-- the planes of w in each assembly that the table was made from; they keep the rules of the table's planes, and are no
-- more
pub record ArePlanesIn (t : Table) (w : PartSet) (planes : List V3) : Type 0 where
  pub rules : AreTablePlanes planes
  pub few : length planes ≤ length t.planes
  pub are : (parts : List Part) → WasMadeFrom parts t → ArePlanes parts w planes
