use Rattle.std.proofs.Common.{List, Err, Ok, subst, sym}
use Rattle.std.specs.Prelude.{All}
use Rattle.staat_vec.specs.declared.vector.V3.{V3}
use Rattle.staat_model.specs.Pieces.{IsPiece}
use Rattle.staat_mesh.specs.Checks.{ChecksEdges, ChecksFaces, ChecksPoints}
use Rattle.staat_mesh.specs.Judging.{AnswersMesh}
use Rattle.staat_mesh.specs.Polygons.{mesh}
use Rattle.staat_mesh.specs.Sides.{IsSupporting}
use Rattle.staat_mesh.proofs.MakeLemmas.{body, carried, makes, points_within, refused_edges, refused_faces, refused_points}
use Rattle.staat_mesh.proofs.make.make_piece.Goals as goal

pub check_points-requires-clause-within : goal.check_points-requires-clause-within
check_points-requires-clause-within c = rw c.as_slice.ensures.value (points_within c.args.raw.now c.in_ok-points.points.items c.requires.indexed c.in_ok-points.ensures.used)

pub returns-in_err-check_points : goal.returns-in_err-check_points
returns-in_err-check_points c =
    let polygons = mesh c.args.raw.now in
    let refusal = c.in_err-check_points.field-0.0 in
    carried (AnswersMesh polygons) c.from_residual-in_err-check_points.result refusal c.from_residual-in_err-check_points.ensures
    (refused_points (Unit {0}) polygons c.in_ok-points.points.items refusal c.in_ok-points.ensures.used (subst (λ (ps : List V3). ChecksPoints {X = Unit {0}} ps (Err refusal)) c.as_slice.ensures.value c.in_err-check_points.ensures))

pub check_faces-requires-clause-points : goal.check_faces-requires-clause-points
check_faces-requires-clause-points c = rw c.as_slice-2.ensures.value (points_within c.args.raw.now c.in_ok-points.points.items c.requires.indexed c.in_ok-points.ensures.used)

pub returns-in_err-check_faces : goal.returns-in_err-check_faces
returns-in_err-check_faces c =
    let polygons = mesh c.args.raw.now in
    let points = c.in_ok-points.points.items in
    let refusal = c.in_err-check_faces.field-0.0 in
    let sound = body (Unit {0}) polygons points tt c.in_ok-points.ensures.used (subst (λ (ps : List V3). ChecksPoints {X = Unit {0}} ps (Ok tt)) c.as_slice.ensures.value c.in_ok-check_points.ensures) in
    carried (AnswersMesh polygons) c.from_residual-in_err-check_faces.result refusal c.from_residual-in_err-check_faces.ensures
    (refused_faces (Unit {0}) polygons points refusal sound (subst (λ (ps : List V3). ChecksFaces {X = Unit {0}} polygons ps (Err refusal)) c.as_slice-2.ensures.value c.in_err-check_faces.ensures))

pub returns-in_err-check_edges : goal.returns-in_err-check_edges
returns-in_err-check_edges c =
    let polygons = mesh c.args.raw.now in
    let points = c.in_ok-points.points.items in
    let refusal = c.in_err-check_edges.field-0.0 in
    let sound = body (Unit {0}) polygons points tt c.in_ok-points.ensures.used (subst (λ (ps : List V3). ChecksPoints {X = Unit {0}} ps (Ok tt)) c.as_slice.ensures.value c.in_ok-check_points.ensures) in
    carried (AnswersMesh polygons) c.from_residual-in_err-check_edges.result refusal c.from_residual-in_err-check_edges.ensures
    (refused_edges (Unit {0}) polygons points refusal sound (subst (λ (ps : List V3). All (IsSupporting ps) polygons) c.as_slice-2.ensures.value c.in_ok-check_faces.ensures)
    (subst (λ (ps : List V3). ChecksEdges {X = Unit {0}} polygons ps (Err refusal)) c.as_slice-3.ensures.value c.in_err-check_edges.ensures))

pub seal-requires : goal.seal-requires
seal-requires c =
    let points = c.in_ok-points.points.items in
    let sound = body (Unit {0}) (mesh c.args.raw.now) points tt c.in_ok-points.ensures.used (subst (λ (ps : List V3). ChecksPoints {X = Unit {0}} ps (Ok tt)) c.as_slice.ensures.value c.in_ok-check_points.ensures) in
    subst IsPiece (sym c.from_vec.ensures) (makes c.args.raw.now points c.requires.indexed sound)
