use Rattle.std.proofs.Common.{◌≤◌, ◌*◌, ◌+◌, ◌^◌, take, flat_map}
use Rattle.staat_vec.specs.Vectors.{plus}
use Rattle.staat_explode.specs.Scenes.{point_line}
use Rattle.staat_explode.specs.Sheets.{AddsText}
use Rattle.staat_explode.proofs.scene.write_points.Given as goal

abbrev pub invariant-loop-vertex : goal.invariant-loop-vertex
invariant-loop-vertex l = record {
  text : AddsText l.initial.sheet l.sheet (flat_map (λ p. point_line (plus (plus p l.at) l.shift)) (take l.vertex-index l.vertices));
  room : l.sheet.length ≤ l.initial.sheet.length + l.vertex-index * 2 ^ 64;
}
