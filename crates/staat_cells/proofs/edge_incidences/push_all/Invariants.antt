use Rattle.staat_cells.specs.Stages.{GrewByAll}
use Rattle.staat_cells.proofs.Growing.{Below}
use Rattle.staat_cells.proofs.ZeroPlaces.{IsPassed}
use Rattle.staat_cells.proofs.edge_incidences.push_all.Given as goal

-- the incidences on the planes that were passed
abbrev pub invariant-loop-i : goal.invariant-loop-i
invariant-loop-i l = GrewByAll (λ x. Below (IsPassed l.planes l.point.d l.m l.base.of l.zeros x) l.i)
    l.initial.incidences.items l.incidences.items
