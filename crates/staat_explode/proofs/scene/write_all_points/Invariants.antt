use Rattle.std.proofs.Common.{◌≤◌, ◌*◌, ◌+◌, ◌^◌, drop, flat_map}
use Rattle.staat_explode.specs.declared.sheet.Sheet.{Sheet}
use Rattle.staat_explode.specs.Scenes.{count_of_points, point_line, points_of_scene}
use Rattle.staat_explode.specs.Sheets.{AddsText}
use Rattle.staat_explode.proofs.scene.write_all_points.Given as goal

-- what adds the lines that are left to the sheet adds all to the first
abbrev pub invariant-loop-solid : goal.invariant-loop-solid
invariant-loop-solid l = record {
  text : (after : Sheet) → AddsText l.sheet after (flat_map point_line (points_of_scene (drop l.solid-index l.solids) l.shifts))
      → AddsText l.initial.sheet after (flat_map point_line (points_of_scene l.solids l.shifts));
  room : l.sheet.length + count_of_points (drop l.solid-index l.solids) * 2 ^ 64
      ≤ l.initial.sheet.length + count_of_points l.solids * 2 ^ 64;
}
