-- Points have one hull, and what is made of the first bodies grows by the next one.
use Rattle.std.proofs.Common.{◌≡◌, ◌∙◌, ℕ, ◌+◌, ◌<◌, ℤ, pos, List, [], ◌∷◌, ◌++◌}
use Rattle.std.proofs.Common.{length, take, get_or, ap, subst, refl, sym}
use Rattle.std.specs.Prelude.{Any, Contains, map}
use Rattle.std.specs.List.{AllZip}
use Rattle.std.proofs.lemmas.List.{append_assoc, get_or-map, length-map, map_more, take_more}
use Rattle.std.proofs.lemmas.Slice.Zip.{all_zipped_more}
use Rattle.staat_vec.specs.declared.vector.V3.{V3}
use Rattle.staat_vec.specs.Lists.{Lists}
use Rattle.staat_vec.specs.Vectors.{vector, vector_cmp}
use Rattle.staat_vec.proofs.Unique.{Lists-unique}
use Rattle.staat_vec.proofs.VectorOrder.{vector_total, vector_exact}
use Rattle.staat_model.specs.Pieces.{IsPiece}
use Rattle.staat_samples.specs.Hulls.{IsHull, HasNoHull, prism_corners}

-- points whose ascending list is no piece have no hull
pub no_hull : (points ordered : List V3) →
    Lists vector_cmp (Contains points) ordered → (IsPiece ordered → ⊥) → HasNoHull points
no_hull points ordered lists none hull h =
    let same = Lists-unique vector_cmp vector_total vector_exact (Contains points) hull ordered h.lists lists in
    none (subst IsPiece same h.piece)

prism_corners-append : (xs ys : List (ℤ × ℤ)) →
    prism_corners (xs ++ ys) ≡ prism_corners xs ++ prism_corners ys
prism_corners-append [] ys = refl
prism_corners-append (x ∷ xs) ys =
    ap (λ points. vector x.0 (pos 0) x.1 ∷ vector x.0 (pos 4) x.1 ∷ points)
    (prism_corners-append xs ys)

pub prism_corners_more : (base : List (ℤ × ℤ)) (k : ℕ) (d : ℤ × ℤ) (points : List V3) →
    k < length base →
    points ≡ prism_corners (take k base) →
    (points ++ vector (get_or base k d).0 (pos 0) (get_or base k d).1 ∷ [])
    ++ vector (get_or base k d).0 (pos 4) (get_or base k d).1 ∷ [] ≡ prism_corners (take (k + 1) base)
prism_corners_more base k d points lt is =
    let corner = get_or base k d in
    append_assoc points _ _ ∙ ap (λ l. l ++ prism_corners (corner ∷ [])) is ∙
    sym (ap prism_corners (take_more base k d lt) ∙ prism_corners-append (take k base) (corner ∷ []))

-- the body at place k has no hull
pub none_at : {X : Type 0} (f : X → List V3) (xs : List X) (k : ℕ) (d : X) → k < length xs →
    HasNoHull (f (get_or xs k d)) → Any HasNoHull (map f xs)
none_at f xs k d lt none =
    (k, f (get_or xs k d), subst (λ n. k < n) (sym (length-map xs f)) lt, get_or-map f xs k d _ lt, none)

pub hulls_more : {X : Type 0} (f : X → List V3) (xs : List X) (k : ℕ) (d : X) (hulls : List (List V3))
    (hull : List V3) → k < length xs →
    AllZip IsHull (map f (take k xs)) hulls → IsHull (f (get_or xs k d)) hull →
    AllZip IsHull (map f (take (k + 1) xs)) (hulls ++ hull ∷ [])
hulls_more f xs k d hulls hull lt zipped is =
    subst (λ bodies. AllZip IsHull bodies (hulls ++ hull ∷ [])) (sym (map_more f xs k d lt))
    (all_zipped_more IsHull (map f (take k xs)) hulls (f (get_or xs k d)) hull zipped is)
