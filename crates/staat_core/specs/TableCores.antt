-- Cores of pairs of a table.
use Rattle.std.specs.Prelude.{◌≢◌, List, All, IsTrue}
use Rattle.staat_vec.specs.declared.vector.V3.{V3}
use Rattle.staat_vec.specs.Vectors.{IsWithin, origin}
use Rattle.staat_vec.specs.declared.words.TheConstants.{SMALL}
use Rattle.staat_model.specs.declared.assembly.Part.{Part}
use Rattle.staat_model.specs.declared.set.PartSet.{PartSet}
use Rattle.staat_pairs.specs.Tables.{Table, WasMadeFrom}
use Rattle.staat_core.specs.declared.table_core.TableCore.{TableCore}
use Rattle.staat_core.specs.Cores.{IsCore}
use Rattle.staat_core.specs.Listed.{HasListRoom, IsTablePair, pairs_in_use}
use Rattle.staat_core.specs.Moves.{HoldsMoves}
use Rattle.staat_core.specs.Sources.{both_ways}

-- the pairs are those of the table, the core is one of them, and the planes are small if it says so
pub record IsTableCore (t : Table) (k : TableCore) : Type 0 where
  pub room : HasListRoom k.list
  pub pairs : All (IsTablePair t) (pairs_in_use k.list)
  pub core : IsCore (pairs_in_use k.list) (λ parts. WasMadeFrom parts t) k.core
  pub low : IsTrue k.low → All (IsWithin SMALL) t.planes

-- as far as the pairs tell by which the core may grow, what it is to hold of w does not move along d
abbrev pub CoreHolds : List Part → TableCore → PartSet → V3 → Type 0
CoreHolds parts k w d = d ≢ origin → HoldsMoves parts (both_ways (pairs_in_use k.list)) k.moving w d
