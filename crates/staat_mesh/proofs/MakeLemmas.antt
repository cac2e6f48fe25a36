-- The rules put together.
use Rattle.std.proofs.Common.{◌≡◌, ◌≤◌, List, length, Result, Ok, Err, sym, subst, ⊎_elim}
use Rattle.std.specs.Prelude.{All, IsErr}
use Rattle.std.specs.Result.{IsErrAnd}
use Rattle.std.proofs.lemmas.List.Elements.{All-contains}
use Rattle.staat_vec.specs.declared.vector.V3.{V3}
use Rattle.staat_vec.specs.declared.vector.TheConstants.{POINT}
use Rattle.staat_vec.specs.Lists.{Lists}
use Rattle.staat_vec.specs.Vectors.{IsWithin, det, minus, vector_cmp}
use Rattle.staat_limits.specs.declared.limits.TheConstants.{LEAST_POINTS, MOST_POINTS}
use Rattle.staat_model.specs.Pieces.{IsPiece, IsSolid}
use Rattle.staat_model.proofs.Members.{All-from_members}
use Rattle.staat_off.specs.declared.raw.Raw.{Raw}
use Rattle.staat_off.specs.Raws.{IsIndexed}
use Rattle.staat_mesh.specs.declared.refusal.MeshRefusal.{MeshRefusal}
use Rattle.staat_mesh.specs.declared.refusal.MeshRefusal.TheVariants.{TooFewPoints, TooManyPoints, Flat, BadFace, NotConvex, OpenEdge, OutOfMemory}
use Rattle.staat_mesh.specs.Checks.{ChecksEdges, ChecksFaces, ChecksPoints}
use Rattle.staat_mesh.specs.Judging.{AnswersMesh, Judges}
use Rattle.staat_mesh.specs.Polygons.{IsUsed, Mesh, mesh}
use Rattle.staat_mesh.specs.Sides.{InPlane, IsSupporting}
use Rattle.staat_mesh.proofs.UsedPoints.{IsCorner, from_used}
use Rattle.staat_vec.proofs.Integers.{zero_or}
use Rattle.staat_vec.proofs.Unique.{from_place}

-- the points are no farther out than the vertices
pub points_within : (raw : Raw) (points : List V3) → IsIndexed raw → Lists vector_cmp (IsUsed (mesh raw)) points → All (IsWithin POINT) points
points_within raw points indexed lists =
    All-from_members (IsWithin POINT) points
    (λ p h. let at : IsCorner raw.points raw.faces p = from_used raw p (lists.each p h) in All-contains (IsWithin POINT) raw.points p indexed.within (from_place raw.points at.0 p at.2))

-- points that do not span space lie in one plane
pub in_plane : (points : List V3) → (IsSolid points → ⊥) → InPlane points
in_plane points none a b c e ha hb hc he =
    ⊎_elim (λ z. z) (λ ne. absurd (none (record { a = a; b = b; c = c; e = e; a_in = ha; b_in = hb; c_in = hc; e_in = he; apart = ne }))) (zero_or (det (minus b a) (minus c a) (minus e a)))

-- the first two rules hold
pub record IsBody (polygons : Mesh) (points : List V3) : Type 0 where
  pub used : Lists vector_cmp (IsUsed polygons) points
  pub least : LEAST_POINTS ≤ length points
  pub most : length points ≤ MOST_POINTS
  pub solid : IsSolid points

pub refused_points : (X : Type 0) (polygons : Mesh) (points : List V3) (refusal : MeshRefusal) → Lists vector_cmp (IsUsed polygons) points → ChecksPoints {X = X} points (Err refusal) → AnswersMesh polygons (Err refusal)
refused_points X polygons points (TooFewPoints found) used h = record { points = points; used = used; by_rules = h }
refused_points X polygons points (TooManyPoints found) used h = record { points = points; used = used; by_rules = h }
refused_points X polygons points Flat used h = record { points = points; used = used; by_rules = h }
refused_points X polygons points OutOfMemory used h = tt
refused_points X polygons points refusal used h = absurd h

pub refused_faces : (X : Type 0) (polygons : Mesh) (points : List V3) (refusal : MeshRefusal) → IsBody polygons points → ChecksFaces {X = X} polygons points (Err refusal) → AnswersMesh polygons (Err refusal)
refused_faces X polygons points (BadFace face) body h = record { points = points; used = body.used; by_rules = (body.least, body.most, (body.solid, h)) }
refused_faces X polygons points (NotConvex face) body h = record { points = points; used = body.used; by_rules = (body.least, body.most, (body.solid, h)) }
refused_faces X polygons points (OpenEdge face corner) body h = record { points = points; used = body.used; by_rules = (body.least, body.most, (body.solid, h)) }
refused_faces X polygons points OutOfMemory body h = tt
refused_faces X polygons points refusal body h = absurd h.1

pub refused_edges : (X : Type 0) (polygons : Mesh) (points : List V3) (refusal : MeshRefusal) → IsBody polygons points → All (IsSupporting points) polygons → ChecksEdges {X = X} polygons points (Err refusal) → AnswersMesh polygons (Err refusal)
refused_edges X polygons points (OpenEdge face corner) body borders h = record { points = points; used = body.used; by_rules = (body.least, body.most, (body.solid, (borders, h))) }
refused_edges X polygons points OutOfMemory body borders h = tt
refused_edges X polygons points refusal body borders h = absurd h

pub body : (X : Type 0) (polygons : Mesh) (points : List V3) (done : X) → Lists vector_cmp (IsUsed polygons) points → ChecksPoints points (Ok done) → IsBody polygons points
body X polygons points done used h = record { used = used; least = h.0; most = h.1; solid = h.2 }

-- what a `?` answers is the refusal that it met
pub carried : {X : Type 0} (P : Result X MeshRefusal → Type 0) (r : Result X MeshRefusal) (refusal : MeshRefusal) → IsErr r × IsErrAnd r (λ e. e ≡ refusal) → P (Err refusal) → P r
carried P (Err e) refusal h p = subst (λ f. P (Err f)) (sym h.1) p
carried P (Ok x) refusal h p = absurd h.1

pub makes : (raw : Raw) (points : List V3) → IsIndexed raw → IsBody (mesh raw) points → IsPiece points
makes raw points indexed body = record {
  ascending = body.used.ascending;
  at_least = body.least;
  at_most = body.most;
  within = points_within raw points indexed body.used;
  solid = body.solid;
}

-- the points of an accepted mesh are a piece
pub accepted_piece : (raw : Raw) (points : List V3) → IsIndexed raw → Judges (mesh raw) (Ok points) → IsPiece points
accepted_piece raw points indexed judged =
    let rules = judged.by_rules in
    let same : points ≡ judged.points = rules.2.1.1.1 in
    let used : IsBody (mesh raw) judged.points = record { used = judged.used; least = rules.0; most = rules.1; solid = rules.2.0 } in
    subst IsPiece (sym same) (makes raw judged.points indexed used)
