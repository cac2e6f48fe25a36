use Rattle.std.proofs.Common.{◌≡◌, take, flat_map}
use Rattle.std.specs.List.{fold}
use Rattle.staat_explode.specs.Boxes.{covering, pieces_of_part}
use Rattle.staat_explode.specs.Sizes.{AreBounds}
use Rattle.staat_explode.proofs.boxes.box_of.Given as goal

abbrev pub invariant-loop-i : goal.invariant-loop-i
invariant-loop-i l = record {
  so_far : l.bounds ≡ fold covering l.initial.bounds (flat_map (λ piece. piece) (take l.i (pieces_of_part l.assembly l.a)));
  size : AreBounds l.bounds;
}
