-- What is told of the planes of a set of parts.
use Rattle.std.specs.Prelude.{◌≡◌, ℕ, ◌<◌, ◌≤◌, List, length}
use Rattle.staat_vec.specs.declared.vector.V3.{V3}
use Rattle.staat_model.specs.declared.assembly.Part.{Part}
use Rattle.staat_model.specs.declared.set.PartSet.{PartSet}
use Rattle.staat_model.specs.Planes.{ArePlanes}
use Rattle.staat_pairs.specs.Tables.{IsTableOf, Table}
use Rattle.staat_planes.specs.declared.refusal.PlanesRefusal.{PlanesRefusal}
use Rattle.staat_planes.specs.declared.refusal.PlanesRefusal.TheVariants.{TooManyPlanes, OutOfMemory}

-- a table of the parts of w, with no more planes than the limit
pub record IsTableWithin (parts : List Part) (w : PartSet) (limit : ℕ) (t : Table) : Type 0 where
  pub table : IsTableOf parts w t
  pub few : length t.planes ≤ limit

-- the parts of w have so many planes, and that is more than the limit
pub record HasManyPlanes (parts : List Part) (w : PartSet) (limit found : ℕ) : Type 0 where
  pub planes : List V3
  pub planes_are : ArePlanes parts w planes
  pub count : length planes ≡ found
  pub many : limit < found

abbrev pub IsPlanesRefusal : List Part → PartSet → ℕ → PlanesRefusal → Type 0
IsPlanesRefusal parts w limit (TooManyPlanes found) = HasManyPlanes parts w limit found
IsPlanesRefusal parts w limit OutOfMemory = Unit {0}
