use Rattle.std.proofs.Common.{◌≡◌, ◌∙◌, ◌+◌, List, ℕ, map, take, flat_map, get_or, ap, subst, arith, rules}
use Rattle.std.proofs.lemmas.List.{take_all}
use Rattle.staat_explode.specs.Scenes.{face_line}
use Rattle.staat_explode.specs.Sheets.{AddsText}
use Rattle.staat_explode.proofs.Lines.{adds_then, line_more}
use Rattle.staat_explode.proofs.scene.write_faces.Goals as goal

pub loop-face-preserved : goal.loop-face-preserved
loop-face-preserved c =
    let line : List ℕ → List ℕ = λ face. face_line (map (λ corner. c.args.before + corner) face) in
    let faces = c.args.faces.now in
    let i = c.loop-face.face-index in
    let d = c.face-item.result in
    let is : c.as_slice-in-loop-face.result.now ≡ line (get_or faces i d) = c.as_slice-in-loop-face.ensures.value ∙ c.in_ok-line.ensures ∙ ap line (c.as_slice.ensures ∙ c.face-item.is) in record {
      text = adds_then c.args.sheet.now c.loop-face.sheet c.write.new.self (flat_map line (take i faces)) (line (get_or faces i d)) _ (line_more line faces i d c.loop-face-test.true) c.loop-face.invariant.text (subst (AddsText c.loop-face.sheet c.write.new.self) is c.in_ok-write.ensures.text);
      room = search rules;
    }

pub returns-clause-text : goal.returns-clause-text
returns-clause-text c =
    subst (λ (fs : List (List ℕ)). AddsText c.args.sheet.now c.loop-face.sheet (flat_map (λ face. face_line (map (λ corner. c.args.before + corner) face)) fs)) (take_all c.loop-face.face-index c.args.faces.now (omega (arith, c.loop-face-test.false))) c.loop-face.invariant.text
