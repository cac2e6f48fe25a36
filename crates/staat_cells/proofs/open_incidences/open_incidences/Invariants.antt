use Rattle.std.proofs.Common.{[], map}
use Rattle.staat_cells.specs.Compositions.{entry_of}
use Rattle.staat_cells.specs.Stages.{GrewByAll}
use Rattle.staat_cells.proofs.Growing.{Below}
use Rattle.staat_cells.proofs.ListedIncidences.{IsFilledAt}
use Rattle.staat_cells.proofs.open_incidences.open_incidences.Given as goal

-- the incidences of the edges that were passed
abbrev pub invariant-loop-k : goal.invariant-loop-k
invariant-loop-k l = GrewByAll (λ x. Below (IsFilledAt (map entry_of l.edges) x) l.k) [] l.incidences.items
