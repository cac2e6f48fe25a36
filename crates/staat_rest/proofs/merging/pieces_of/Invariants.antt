use Rattle.std.proofs.Common.{◌↔◌, ◌<◌, Contains}
use Rattle.staat_model.specs.Assemblies.{piece_count}
use Rattle.staat_rest.specs.declared.merging.Origin.{Origin}
use Rattle.staat_rest.specs.Nodes.{IsInNode}
use Rattle.staat_rest.proofs.merging.pieces_of.Given as goal

abbrev pub invariant-loop-p : goal.invariant-loop-p
invariant-loop-p l = (o : Origin) → Contains l.origins.items o
    ↔ ((o.part < l.p) × IsInNode l.names l.node o.part × (o.piece < piece_count l.parts o.part))
