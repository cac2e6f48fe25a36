use Rattle.std.proofs.Common.{◌≡◌, ◌∙◌, List, ℕ, take, flat_map, get_or, ap, subst, sym, arith}
use Rattle.std.proofs.lemmas.List.{take_all}
use Rattle.staat_vec.specs.declared.vector.V3.{V3}
use Rattle.staat_vec.specs.declared.vector.TheConstants.{POINT}
use Rattle.staat_vec.specs.Vectors.{IsWithin, plus}
use Rattle.staat_explode.specs.Scenes.{point_line}
use Rattle.staat_explode.specs.Sheets.{AddsText}
use Rattle.staat_explode.proofs.Lines.{adds_then, line_more}
use Rattle.staat_explode.proofs.scene.write_points.Goals as goal

pub loop-vertex-preserved : goal.loop-vertex-preserved
loop-vertex-preserved c =
    let line : V3 → List ℕ = λ p. point_line (plus (plus p c.args.at) c.args.shift) in
    let points = c.args.vertices.now in
    let i = c.loop-vertex.vertex-index in
    let d = c.vertex-item.result in
    let is : c.as_bytes.result.now ≡ line (get_or points i d) =
    c.as_bytes.ensures.value ∙ c.in_ok-line.ensures ∙ ap point_line c.placed.ensures ∙ ap line (c.point.ensures ∙ c.vertex-item.is) in
    record {
      text = adds_then c.args.sheet.now c.loop-vertex.sheet c.write.new.self (flat_map line (take i points)) (line (get_or points i d)) _
          (line_more line points i d c.loop-vertex-test.true) c.loop-vertex.invariant.text (subst (AddsText c.loop-vertex.sheet c.write.new.self) is c.in_ok-write.ensures.text);
      room = omega (arith, c.in_ok-write.ensures.length, c.as_bytes.ensures.len);
    }

pub placed-requires-clause-p : goal.placed-requires-clause-p
placed-requires-clause-p c =
    let same = c.point.ensures ∙ c.vertex-item.is in
    subst (IsWithin POINT) (sym same) (c.requires.points c.loop-vertex.vertex-index c.vertex-item.result c.loop-vertex-test.true)

pub returns-clause-text : goal.returns-clause-text
returns-clause-text c =
    subst (λ (ps : List V3). AddsText c.args.sheet.now c.loop-vertex.sheet (flat_map (λ p. point_line (plus (plus p c.args.at) c.args.shift)) ps)) (take_all c.loop-vertex.vertex-index c.args.vertices.now (omega (arith, c.loop-vertex-test.false))) c.loop-vertex.invariant.text
