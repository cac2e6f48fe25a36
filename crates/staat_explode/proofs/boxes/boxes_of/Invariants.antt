use Rattle.std.proofs.Common.{◌≡◌, take, map, All}
use Rattle.staat_explode.specs.Boxes.{box_of, points_of}
use Rattle.staat_explode.specs.Sizes.{AreBounds}
use Rattle.staat_explode.proofs.boxes.boxes_of.Given as goal

abbrev pub invariant-loop-a : goal.invariant-loop-a
invariant-loop-a l = record {
  so_far : l.boxes.items ≡ map (λ part. box_of (points_of part)) (take l.a l.assembly);
  size : All AreBounds l.boxes.items;
}
