-- Pairs of pieces of a table.
use Rattle.std.specs.Prelude.{◌≡◌, ◌<◌, ◌≤◌, List, All, length, take}
use Rattle.staat_model.specs.declared.certificate.Arc.{Arc}
use Rattle.staat_pairs.specs.Tables.{IsTableArc, Table}
use Rattle.staat_core.specs.declared.listed.PairList.{PairList}

-- a pair of the table, the piece of the lesser part first
pub record IsTablePair (t : Table) (pair : Arc) : Type 0 where
  pub across : IsTableArc t pair
  pub order : pair.a < pair.b

-- the pairs that are in use
abbrev pub pairs_in_use : PairList → List Arc
pairs_in_use l = take l.count l.pairs

-- the array has its room
pub record HasListRoom (l : PairList) : Type 0 where
  pub long : length l.pairs ≡ 2016
  pub few : l.count ≤ 2016

-- all of them are pairs of the table
pub record AreTablePairs (t : Table) (l : PairList) : Type 0 where
  pub room : HasListRoom l
  pub pairs : All (IsTablePair t) (pairs_in_use l)
