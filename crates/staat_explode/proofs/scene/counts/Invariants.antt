use Rattle.std.proofs.Common.{◌≡◌, ◌+◌, drop, length}
use Rattle.staat_explode.specs.Scenes.{count_of_points, faces_behind}
use Rattle.staat_explode.proofs.scene.counts.Given as goal

abbrev pub invariant-loop-solid : goal.invariant-loop-solid
invariant-loop-solid l = record {
  points : l.points + count_of_points (drop l.solid-index l.solids) ≡ count_of_points l.solids;
  faces : l.faces + length (faces_behind l.points (drop l.solid-index l.solids)) ≡ length (faces_behind 0 l.solids);
}
