-- Pairs of pieces that touch.
use Rattle.std.specs.Prelude.{List, Bool}
use Rattle.staat_model.specs.declared.certificate.Arc.{Arc}
use Rattle.staat_pairs.specs.Tables.{Table, slot}
use Rattle.staat_core.specs.Listed.{IsTablePair}
use Rattle.staat_local.specs.Touching.{IsPairMarked}

-- a pair of the table that is marked
pub record IsMarkedPair (t : Table) (marks : List Bool) (pair : Arc) : Type 0 where
  pub pair_is : IsTablePair t pair
  pub marked : IsPairMarked marks (slot t.pieces pair)
