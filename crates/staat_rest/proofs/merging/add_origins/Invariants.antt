use Rattle.std.proofs.Common.{◌≡◌, ◌⊎◌, ◌↔◌, ◌<◌, Contains}
use Rattle.staat_rest.specs.declared.merging.Origin.{Origin}
use Rattle.staat_rest.proofs.merging.add_origins.Given as goal

abbrev pub invariant-loop-piece : goal.invariant-loop-piece
invariant-loop-piece l = (o : Origin) → Contains l.origins.items o
    ↔ (Contains l.initial.origins.items o ⊎ ((o.part ≡ l.part) × (o.piece < l.piece)))
