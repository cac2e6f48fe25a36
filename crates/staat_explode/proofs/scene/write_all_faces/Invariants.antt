use Rattle.std.proofs.Common.{◌≡◌, ◌≤◌, ◌*◌, ◌+◌, ◌^◌, drop, flat_map, length}
use Rattle.staat_explode.specs.declared.sheet.Sheet.{Sheet}
use Rattle.staat_explode.specs.Scenes.{count_of_points, face_line, faces_behind}
use Rattle.staat_explode.specs.Sheets.{AddsText}
use Rattle.staat_explode.proofs.scene.write_all_faces.Given as goal

-- what adds the lines that are left to the sheet adds all to the first
abbrev pub invariant-loop-solid : goal.invariant-loop-solid
invariant-loop-solid l = record {
  text : (after : Sheet) → AddsText l.sheet after (flat_map face_line (faces_behind l.before (drop l.solid-index l.solids)))
      → AddsText l.initial.sheet after (flat_map face_line (faces_behind 0 l.solids));
  room : l.sheet.length + length (faces_behind l.before (drop l.solid-index l.solids)) * 2 ^ 64
      ≤ l.initial.sheet.length + length (faces_behind 0 l.solids) * 2 ^ 64;
  before : l.before + count_of_points (drop l.solid-index l.solids) ≡ count_of_points l.solids;
}
