use Rattle.std.proofs.Common.{[], map}
use Rattle.staat_cells.specs.Compositions.{entry_of}
use Rattle.staat_cells.specs.Stages.{GrewByAll}
use Rattle.staat_cells.proofs.Growing.{Below}
use Rattle.staat_cells.proofs.ListedIncidences.{IsOwnAt}
use Rattle.staat_cells.proofs.points.own_incidences.Given as goal

-- the incidences of the cells that were passed
abbrev pub invariant-loop-k : goal.invariant-loop-k
invariant-loop-k l = GrewByAll (λ x. Below (IsOwnAt (map entry_of l.cells) x) l.k) [] l.incidences.items
