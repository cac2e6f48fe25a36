-- A mesh has one answer.
use Rattle.std.proofs.Common.{◌≡◌, ◌<◌, ℕ, List, take, Some, Result, Ok, Err, refl, ap, sym, subst, ◌∙◌, arith, get_or-take}
use Rattle.std.specs.Prelude.{All, slice_get}
use Rattle.std.proofs.lemmas.List.{length-take}
use Rattle.std.proofs.lemmas.Option.{get_or_from_slice_get, slice_get_within}
use Rattle.staat_vec.specs.declared.vector.V3.{V3}
use Rattle.staat_vec.specs.Vectors.{vector_cmp}
use Rattle.staat_vec.proofs.Unique.{Lists-unique}
use Rattle.staat_vec.proofs.VectorOrder.{vector_exact, vector_total}
use Rattle.staat_limits.specs.declared.limits.TheConstants.{LEAST_POINTS, MOST_POINTS}
use Rattle.staat_model.specs.Pieces.{IsSolid}
use Rattle.staat_mesh.specs.declared.refusal.MeshRefusal.{MeshRefusal}
use Rattle.staat_mesh.specs.declared.refusal.MeshRefusal.TheVariants.{TooFewPoints, TooManyPoints, Flat, BadFace, NotConvex, OpenEdge}
use Rattle.staat_mesh.specs.Edges.{IsClosed, edges}
use Rattle.staat_mesh.specs.Judging.{HasClosedEdges, IsFirstFace, IsFirstOpen, Judges, JudgesEdges, JudgesFaces, JudgesNumber, JudgesShape}
use Rattle.staat_mesh.specs.Polygons.{IsUsed, Mesh, Polygon}
use Rattle.staat_mesh.specs.Sides.{InPlane, IsBadFace, IsSupporting, IsCut}
use Rattle.staat_mesh.proofs.PlaneLemmas.{border_not_cut, plane_not_bad}
use Rattle.staat_vec.proofs.Options.{from_some}
use Rattle.staat_vec.proofs.ListLaws.{All-at}
use Rattle.staat_vec.proofs.Naturals.{same_from_neither}

-- what holds of the first elements holds of each of them
at_front : {X : Type 0} (P : X → Type 0) (xs : List X) (n i : ℕ) (x : X) → i < n → slice_get xs i ≡ Some x → All P (take n xs) → P x
at_front P xs n i x lt e all =
    subst P (get_or-take n xs i x lt ∙ get_or_from_slice_get xs i x x e) (all i x (omega (arith, lt, slice_get_within xs i x e, length-take n xs)))

same_some : {X : Type 0} (xs : List X) (i j : ℕ) (x y : X) → i ≡ j → slice_get xs i ≡ Some x → slice_get xs j ≡ Some y → x ≡ y
same_some xs i j x y e f g = from_some (sym f ∙ ap (slice_get xs) e ∙ g)

-- ---- faces

border_not_bad : (points : List V3) (polygon : Polygon) → IsSupporting points polygon → IsBadFace polygon → ⊥
border_not_bad points polygon border bad = plane_not_bad polygon border.a border.b border.c border.plane bad

first_face : (points : List V3) (polygons : Mesh) (P Q : Polygon → Type 0) → ((polygon : Polygon) → IsSupporting points polygon → P polygon → ⊥) → ((polygon : Polygon) → IsSupporting points polygon → Q polygon → ⊥) → (f g : ℕ) → IsFirstFace points polygons P f → IsFirstFace points polygons Q g → f ≡ g
first_face points polygons P Q no_p no_q f g a b =
    same_from_neither f g
    (λ lt. no_p a.polygon (at_front (IsSupporting points) polygons g f a.polygon lt a.at b.before) a.broken)
    (λ lt. no_q b.polygon (at_front (IsSupporting points) polygons f g b.polygon lt b.at a.before) b.broken)

not_all_border : (points : List V3) (polygons : Mesh) (P : Polygon → Type 0) → ((polygon : Polygon) → IsSupporting points polygon → P polygon → ⊥) → (f : ℕ) → IsFirstFace points polygons P f → All (IsSupporting points) polygons → ⊥
not_all_border points polygons P no_p f a all = no_p a.polygon (All-at (IsSupporting points) polygons f a.polygon a.at all) a.broken

bad_not_cut : (points : List V3) (polygons : Mesh) (f g : ℕ) → IsFirstFace points polygons IsBadFace f → IsFirstFace points polygons (IsCut points) g → ⊥
bad_not_cut points polygons f g a b =
    let e : f ≡ g = first_face points polygons IsBadFace (IsCut points) (border_not_bad points) (border_not_cut points) f g a b in
    let cut : IsCut points a.polygon = subst (IsCut points) (sym (same_some polygons f g a.polygon b.polygon e a.at b.at)) b.broken in
    plane_not_bad a.polygon cut.a cut.b cut.c cut.plane a.broken

-- ---- edges

open_not_closed : (polygons : Mesh) (f corner : ℕ) (first : IsFirstOpen polygons f corner) → IsClosed polygons (first.from, first.to) → ⊥
open_not_closed polygons f corner first closed = first.unpaired (closed first.apart)

not_all_closed : (polygons : Mesh) (f corner : ℕ) → IsFirstOpen polygons f corner → All (HasClosedEdges polygons) polygons → ⊥
not_all_closed polygons f corner first all =
    open_not_closed polygons f corner first (All-at (IsClosed polygons) (edges first.polygon) corner (first.from, first.to) first.edge (All-at (HasClosedEdges polygons) polygons f first.polygon first.at all))

before_face : (polygons : Mesh) (f corner g other : ℕ) → IsFirstOpen polygons f corner → IsFirstOpen polygons g other → f < g → ⊥
before_face polygons f corner g other a b lt =
    open_not_closed polygons f corner a (All-at (IsClosed polygons) (edges a.polygon) corner (a.from, a.to) a.edge (at_front (HasClosedEdges polygons) polygons g f a.polygon lt a.at b.faces_before))

before_corner : (polygons : Mesh) (f corner g other : ℕ) → (a : IsFirstOpen polygons f corner) (b : IsFirstOpen polygons g other) → a.polygon ≡ b.polygon → corner < other → ⊥
before_corner polygons f corner g other a b e lt =
    open_not_closed polygons f corner a (at_front (IsClosed polygons) (edges a.polygon) other corner (a.from, a.to) lt a.edge (subst (λ polygon. All (IsClosed polygons) (take other (edges polygon))) (sym e) b.edges_before))

one_open : (polygons : Mesh) (f corner g other : ℕ) → IsFirstOpen polygons f corner → IsFirstOpen polygons g other → (f ≡ g) × (corner ≡ other)
one_open polygons f corner g other a b =
    let e : f ≡ g = same_from_neither f g (before_face polygons f corner g other a b) (before_face polygons g other f corner b a) in
    let same : a.polygon ≡ b.polygon = same_some polygons f g a.polygon b.polygon e a.at b.at in
    (e, same_from_neither corner other (before_corner polygons f corner g other a b same) (before_corner polygons g other f corner b a (sym same)))

-- ---- rule by rule

one_edges : (polygons : Mesh) (points : List V3) (r s : Result (List V3) MeshRefusal) → JudgesEdges polygons points r → JudgesEdges polygons points s → r ≡ s
one_edges polygons points (Ok p) (Ok q) a b = ap Ok (a.1 ∙ sym b.1)
one_edges polygons points (Ok p) (Err (OpenEdge g d)) a b = absurd (not_all_closed polygons g d b a.0)
one_edges polygons points (Ok p) (Err refusal) a b = absurd b
one_edges polygons points (Err (OpenEdge f c)) (Ok q) a b = absurd (not_all_closed polygons f c a b.0)
one_edges polygons points (Err (OpenEdge f c)) (Err (OpenEdge g d)) a b = let e = one_open polygons f c g d a b in λ i. Err (OpenEdge (e.0 i) (e.1 i))
one_edges polygons points (Err (OpenEdge f c)) (Err refusal) a b = absurd b
one_edges polygons points (Err refusal) s a b = absurd a

one_faces : (polygons : Mesh) (points : List V3) (r s : Result (List V3) MeshRefusal) → JudgesFaces polygons points r → JudgesFaces polygons points s → r ≡ s
one_faces polygons points (Err (BadFace f)) (Err (BadFace g)) a b = ap (λ n. Err (BadFace n)) (first_face points polygons IsBadFace IsBadFace (border_not_bad points) (border_not_bad points) f g a b)
one_faces polygons points (Err (BadFace f)) (Err (NotConvex g)) a b = absurd (bad_not_cut points polygons f g a b)
one_faces polygons points (Err (NotConvex f)) (Err (BadFace g)) a b = absurd (bad_not_cut points polygons g f b a)
one_faces polygons points (Err (NotConvex f)) (Err (NotConvex g)) a b = ap (λ n. Err (NotConvex n)) (first_face points polygons (IsCut points) (IsCut points) (border_not_cut points) (border_not_cut points) f g a b)
one_faces polygons points (Err (BadFace f)) s a b = absurd (not_all_border points polygons IsBadFace (border_not_bad points) f a b.0)
one_faces polygons points (Err (NotConvex f)) s a b = absurd (not_all_border points polygons (IsCut points) (border_not_cut points) f a b.0)
one_faces polygons points r (Err (BadFace g)) a b = absurd (not_all_border points polygons IsBadFace (border_not_bad points) g b a.0)
one_faces polygons points r (Err (NotConvex g)) a b = absurd (not_all_border points polygons (IsCut points) (border_not_cut points) g b a.0)
one_faces polygons points r s a b = one_edges polygons points r s a.1 b.1

flat_not_solid : (points : List V3) → InPlane points → IsSolid points → ⊥
flat_not_solid points flat solid = solid.apart (flat solid.a solid.b solid.c solid.e solid.a_in solid.b_in solid.c_in solid.e_in)

one_shape : (polygons : Mesh) (points : List V3) (r s : Result (List V3) MeshRefusal) → JudgesShape polygons points r → JudgesShape polygons points s → r ≡ s
one_shape polygons points (Err Flat) (Err Flat) a b = refl
one_shape polygons points (Err Flat) s a b = absurd (flat_not_solid points a b.0)
one_shape polygons points r (Err Flat) a b = absurd (flat_not_solid points b a.0)
one_shape polygons points r s a b = one_faces polygons points r s a.1 b.1

few_or_many : (n m : ℕ) → n < LEAST_POINTS → MOST_POINTS < m → n ≡ m → ⊥
few_or_many n m h g e = omega arith

one_number : (polygons : Mesh) (points : List V3) (r s : Result (List V3) MeshRefusal) → JudgesNumber polygons points r → JudgesNumber polygons points s → r ≡ s
one_number polygons points (Err (TooFewPoints m)) (Err (TooFewPoints n)) a b = ap (λ k. Err (TooFewPoints k)) (sym a.0 ∙ b.0)
one_number polygons points (Err (TooFewPoints m)) (Err (TooManyPoints n)) a b = absurd (few_or_many m n a.1 b.1 (sym a.0 ∙ b.0))
one_number polygons points (Err (TooManyPoints m)) (Err (TooFewPoints n)) a b = absurd (few_or_many n m b.1 a.1 (sym b.0 ∙ a.0))
one_number polygons points (Err (TooManyPoints m)) (Err (TooManyPoints n)) a b = ap (λ k. Err (TooManyPoints k)) (sym a.0 ∙ b.0)
one_number polygons points (Err (TooFewPoints m)) s a b = absurd (omega (arith, a.0, a.1, b.0))
one_number polygons points (Err (TooManyPoints m)) s a b = absurd (omega (arith, a.0, a.1, b.1))
one_number polygons points r (Err (TooFewPoints n)) a b = absurd (omega (arith, b.0, b.1, a.0))
one_number polygons points r (Err (TooManyPoints n)) a b = absurd (omega (arith, b.0, b.1, a.1))
one_number polygons points r s a b = one_shape polygons points r s a.2 b.2

pub one_answer_lemma : (polygons : Mesh) (r s : Result (List V3) MeshRefusal) → Judges polygons r → Judges polygons s → r ≡ s
one_answer_lemma polygons r s a b =
    let same : a.points ≡ b.points = Lists-unique vector_cmp vector_total vector_exact (IsUsed polygons) a.points b.points a.used b.used in
    one_number polygons b.points r s (subst (λ points. JudgesNumber polygons points r) same a.by_rules) b.by_rules
