use Rattle.std.proofs.Common.{◌≡◌, ◌<◌, ◌⊎◌, ◌↔◌, ℕ, All, Bool, List, [], false, get_or, length, ap, sym, subst, ◌∙◌}
use Rattle.std.specs.Prelude.{Contains}
use Rattle.std.proofs.lemmas.List.{get_or_read, length-replicate, take_all}
use Rattle.std.proofs.lemmas.Result.{err_from_is_err_and}
use Rattle.staat_mesh.specs.MarkedVertices.{IsMarked, MarksCorners}
use Rattle.staat_mesh.proofs.MarkLemmas.{corners_more, corners_none}
use Rattle.staat_mesh.proofs.used.marks_of.Goals as goal
use Rattle.staat_vec.proofs.ListLaws.{written_back}

pub loop-face-init : goal.loop-face-init
loop-face-init c =
    let e = c.in_ok-marks.ensures.items_if_clones_equal (λ y d. d) in record {
      number = ap length e ∙ length-replicate c.args.vertices false;
      corners = subst (MarksCorners []) (sym e) (corners_none c.args.vertices c.args.faces.now);
    }

pub loop-face-preserved : goal.loop-face-preserved
loop-face-preserved c =
    let marks = c.loop-face.marks in
    let face = c.as_slice.ensures ∙ get_or_read c.args.faces.now c.loop-face.face-index _ c.loop-face-test.true c.face-item.is [] in
    let lent = subst (λ (ms : List Bool). (w : ℕ) → IsMarked c.mark.new.marks w ↔ (IsMarked ms w ⊎ Contains c.as_slice.result.now w)) c.as_mut_slice.ensures.value c.mark.ensures in
    let now = subst (λ (xs : List ℕ). (w : ℕ) → IsMarked c.mark.new.marks w ↔ (IsMarked marks.items w ⊎ Contains xs w)) face lent in
    let same : length c.mark.new.marks ≡ length marks.items = c.mark.auto.marks ∙ ap length c.as_mut_slice.ensures.value in
    rw (written_back marks.items c.mark.new.marks marks.len same marks.ok.0) (record {
      number = same ∙ c.loop-face.invariant.number;
      corners = corners_more c.args.faces.now c.loop-face.face-index marks.items c.mark.new.marks c.loop-face-test.true now c.loop-face.invariant.corners;
    })

within_marks : (faces : List (List ℕ)) (vertices i : ℕ) (xs : List ℕ) (marks : List Bool) → All (All (λ v. v < vertices)) faces → i < length faces
    → xs ≡ get_or faces i [] → length marks ≡ vertices → All (λ v. v < length marks) xs
within_marks faces vertices i xs marks h lt e n = rw (e, n) (h i [] lt)

pub mark-requires : goal.mark-requires
mark-requires c =
    let face = c.as_slice.ensures ∙ get_or_read c.args.faces.now c.loop-face.face-index _ c.loop-face-test.true c.face-item.is [] in
    within_marks c.args.faces.now c.args.vertices c.loop-face.face-index c.as_slice.result.now c.as_mut_slice.result.now c.requires c.loop-face-test.true
    face (ap length c.as_mut_slice.ensures.value ∙ c.loop-face.invariant.number)

pub returns-in_err-marks : goal.returns-in_err-marks
returns-in_err-marks c =
    let p = err_from_is_err_and c.from_residual.result c.from_residual.ensures.1 in
    rw p.1 (record { number = tt; corners = tt })

pub returns-clause-number : goal.returns-clause-number
returns-clause-number c = c.loop-face.invariant.number

pub returns-clause-corners : goal.returns-clause-corners
returns-clause-corners c =
    subst (λ (faces : List (List ℕ)). MarksCorners faces c.loop-face.marks.items) (take_all c.loop-face.face-index c.args.faces.now c.loop-face-test.false) c.loop-face.invariant.corners
