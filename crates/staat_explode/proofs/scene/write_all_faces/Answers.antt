use Rattle.std.proofs.Common.{◌≡◌, ◌+◌, List, ℕ, [], drop, flat_map, length, map, ap, sym, subst, arith}
use Rattle.std.proofs.lemmas.List.{drop_all}
use Rattle.staat_explode.specs.declared.scene.Solid.{Solid}
use Rattle.staat_explode.specs.Scenes.{face_line, faces_behind}
use Rattle.staat_explode.specs.Sheets.{AddsText}
use Rattle.staat_explode.proofs.Lines.{adds_none, adds_then, faces_left, faces_then, points_left}
use Rattle.staat_explode.proofs.scene.write_all_faces.Goals as goal

pub loop-solid-preserved : goal.loop-solid-preserved
loop-solid-preserved c =
    let solids = c.args.solids.now in
    let before = c.loop-solid.before in
    let i = c.loop-solid.solid-index in
    let s = c.solid-item.result in
    let rest : ℕ → List (List ℕ) = λ n. faces_behind (before + n) (drop (i + 1) solids) in
    let count : length c.as_slice-in-loop-solid.result.now ≡ length s.raw.points = ap length c.as_slice-in-loop-solid.ensures in
    let written = subst (λ (fs : List (List ℕ)). AddsText c.loop-solid.sheet c.write_faces.new.sheet (flat_map (λ face. face_line (map (λ corner. before + corner) face)) fs)) c.as_slice.ensures c.in_ok-write_faces.ensures.text in record {
      text = λ after more. c.loop-solid.invariant.text after (adds_then c.loop-solid.sheet c.write_faces.new.sheet after _ _ _ (faces_then before solids i s s c.loop-solid-test.true c.solid-item.is) written (subst (λ n. AddsText c.write_faces.new.sheet after (flat_map face_line (rest n))) count more));
      room = omega (arith, c.in_ok-write_faces.ensures.room, ap length c.as_slice.ensures, faces_left before solids i s s c.loop-solid-test.true c.solid-item.is, ap (λ n. length (rest n)) count, c.loop-solid.invariant.room);
      before = omega (arith, count, points_left solids i s s c.loop-solid-test.true c.solid-item.is, c.loop-solid.invariant.before);
    }

pub returns : goal.returns
returns c =
    let none : drop c.loop-solid.solid-index c.args.solids.now ≡ [] = drop_all c.loop-solid.solid-index c.args.solids.now (omega (arith, c.loop-solid-test.false)) in
    c.loop-solid.invariant.text c.loop-solid.sheet (subst (λ (ss : List Solid). AddsText c.loop-solid.sheet c.loop-solid.sheet (flat_map face_line (faces_behind c.loop-solid.before ss))) (sym none) (adds_none c.loop-solid.sheet))
