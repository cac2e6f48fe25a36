use Rattle.std.proofs.Common.{◌≡◌, map, take}
use Rattle.std.specs.Prelude.{Some}
use Rattle.staat_model.specs.Assemblies.{piece_at}
use Rattle.staat_rest.proofs.merging.merged_part.Given as goal

abbrev pub invariant-loop-origin : goal.invariant-loop-origin
invariant-loop-origin l = map (λ o. piece_at l.parts o.part o.piece) (take l.origin-index l.origins) ≡ map Some l.pieces.items
