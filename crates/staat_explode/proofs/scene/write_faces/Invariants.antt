use Rattle.std.proofs.Common.{◌≤◌, ◌*◌, ◌+◌, ◌^◌, map, take, flat_map}
use Rattle.staat_explode.specs.Scenes.{face_line}
use Rattle.staat_explode.specs.Sheets.{AddsText}
use Rattle.staat_explode.proofs.scene.write_faces.Given as goal

abbrev pub invariant-loop-face : goal.invariant-loop-face
invariant-loop-face l = record {
  text : AddsText l.initial.sheet l.sheet (flat_map (λ face. face_line (map (λ corner. l.before + corner) face)) (take l.face-index l.faces));
  room : l.sheet.length ≤ l.initial.sheet.length + l.face-index * 2 ^ 64;
}
