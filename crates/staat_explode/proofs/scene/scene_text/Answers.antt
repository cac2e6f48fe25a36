use Rattle.std.proofs.Common.{◌≡◌, ◌∙◌, ◌++◌, [], List, ℕ, length, flat_map, ap, sym, subst, append_assoc}
use Rattle.staat_explode.specs.Scenes.{count_of_points, face_line, faces_behind, head_text, off_text, point_line, points_of_scene}
use Rattle.staat_explode.specs.Sheets.{Written}
use Rattle.staat_explode.proofs.Lines.{points_counted}
use Rattle.staat_explode.proofs.scene.scene_text.Goals as goal

pub returns : goal.returns
unfolding off_text
returns c =
    let solids = c.args.solids.now in
    let shifts = c.args.s.now in
    let points = points_of_scene solids shifts in
    let faces = faces_behind 0 solids in
    let all : c.as_slice-all.result.now ≡ solids = c.as_slice-all.ensures in
    let by : c.as_slice-shifts.result.now ≡ shifts = c.as_slice-shifts.ensures in
    let first = c.in_ok-write.ensures.text [] c.new-sheet.ensures.text in
    let second = c.in_ok-write_all_points.ensures.text _ first in
    let third = c.in_ok-write_all_faces.ensures _ second in
    let some : c.counts-points.result.0 ≡ length points = c.counts-points.ensures.points ∙ ap count_of_points all ∙ sym (points_counted solids shifts) in
    let others : c.counts-points.result.1 ≡ length faces = c.counts-points.ensures.faces ∙ ap (λ l. length (faces_behind 0 l)) all in
    let head : c.as_bytes.result.now ≡ head_text (length points) (length faces) = c.as_bytes.ensures.value ∙ c.in_ok-head.ensures ∙ (λ i. head_text (some i) (others i)) in
    let same : (c.as_bytes.result.now ++ flat_map point_line (points_of_scene c.as_slice-all.result.now c.as_slice-shifts.result.now)) ++ flat_map face_line (faces_behind 0 c.as_slice-all.result.now) ≡ head_text (length points) (length faces) ++ (flat_map point_line points ++ flat_map face_line faces) =
    (λ i. (head i ++ flat_map point_line (points_of_scene (all i) (by i))) ++ flat_map face_line (faces_behind 0 (all i))) ∙ append_assoc (head_text (length points) (length faces)) (flat_map point_line points) (flat_map face_line faces) in
    subst (λ (t : List ℕ). Written t c.text.result) same (c.text.ensures _ third)
