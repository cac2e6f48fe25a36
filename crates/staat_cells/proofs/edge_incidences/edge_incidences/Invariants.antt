use Rattle.std.proofs.Common.{[], map}
use Rattle.staat_cells.specs.Compositions.{entry_of}
use Rattle.staat_cells.specs.Stages.{GrewByAll}
use Rattle.staat_cells.proofs.Growing.{Below}
use Rattle.staat_cells.proofs.ListedIncidences.{IsEdgeAt}
use Rattle.staat_cells.proofs.edge_incidences.edge_incidences.Given as goal

-- the incidences of the points that were passed
abbrev pub invariant-loop-k : goal.invariant-loop-k
invariant-loop-k l = GrewByAll (λ x. Below (IsEdgeAt l.planes (map entry_of l.points) x) l.k) [] l.incidences.items
