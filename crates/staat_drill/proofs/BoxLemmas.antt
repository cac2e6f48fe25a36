-- A box is a piece, and boxes have one union.
use Rattle.std.proofs.Common.{◌≡◌, ◌≢◌, ◌∙◌, ℤ, pos, ◌<ℤ◌, ◌-ℤ◌, ◌*ℤ◌, List, [], ◌∷◌, map, refl, ap, sym, subst, arith, lit<, lit≤, All}
use Rattle.std.specs.Prelude.{Any}
use Rattle.std.specs.List.{AllZip}
use Rattle.std.specs.List.Sorted.{IsStrictlySortedBy}
use Rattle.std.specs.Ordering.{int_cmp, ordering_then}
use Rattle.std.specs.Cmp.{int_cmp_is}
use Rattle.std.specs.declared.cmp.Ordering.{Ordering}
use Rattle.std.specs.declared.cmp.Ordering.TheVariants.{Less, Equal}
use Rattle.std.proofs.lemmas.Int.{ints}
use Rattle.std.proofs.lemmas.List.Elements.{All-from_recursion, All-head, All-map, All-tail, All-weaker}
use Rattle.staat_vec.specs.declared.vector.V3.{V3}
use Rattle.staat_vec.specs.declared.vector.TheConstants.{POINT}
use Rattle.staat_vec.specs.Vectors.{IsWithin, det, minus, vector, vector_cmp}
use Rattle.staat_vec.proofs.Order.{pos_mul}
use Rattle.staat_vec.proofs.Ring.{ring, at, ◌⊖◌, ◌⊗◌}
use Rattle.staat_vec.proofs.Unique.{Lists-unique}
use Rattle.staat_vec.proofs.VecRing.{detE, minusE, vectorE}
use Rattle.staat_vec.proofs.VectorOrder.{vector_exact, vector_total}
use Rattle.staat_model.specs.Pieces.{IsPiece, IsSolid}
use Rattle.staat_model.specs.declared.assembly.Part.{Part}
use Rattle.staat_samples.specs.Hulls.{HasNoHull, IsHull, IsUnion, box_corners}
use Rattle.staat_drill.specs.Products.{IsBox, part_of_boxes}

less_is : (a b : ℤ) → a <ℤ b → int_cmp a b ≡ Less
less_is a b lt = sym (int_cmp_is a b Less lt)

same_is : (a : ℤ) → int_cmp a a ≡ Equal
same_is a = sym (int_cmp_is a a Equal refl)

-- points that differ first in x, in y, in z
by_x : (x u y v z w : ℤ) → x <ℤ u → vector_cmp (vector x y z) (vector u v w) ≡ Less
by_x x u y v z w lt = ap (λ (o : Ordering). ordering_then o (ordering_then (int_cmp y v) (int_cmp z w))) (less_is x u lt)

by_y : (x y v z w : ℤ) → y <ℤ v → vector_cmp (vector x y z) (vector x v w) ≡ Less
by_y x y v z w lt =
    ap (λ (o : Ordering). ordering_then o (ordering_then (int_cmp y v) (int_cmp z w))) (same_is x) ∙
    ap (λ (o : Ordering). ordering_then o (int_cmp z w)) (less_is y v lt)

by_z : (x y z w : ℤ) → z <ℤ w → vector_cmp (vector x y z) (vector x y w) ≡ Less
by_z x y z w lt =
    ap (λ (o : Ordering). ordering_then o (ordering_then (int_cmp y y) (int_cmp z w))) (same_is x) ∙
    ap (λ (o : Ordering). ordering_then o (int_cmp z w)) (same_is y) ∙ less_is z w lt

module _ (x y z u v w : ℤ) (xs : x <ℤ u) (ys : y <ℤ v) (zs : z <ℤ w) where
  ascends : IsStrictlySortedBy vector_cmp (box_corners (vector x y z) (vector u v w))
  unfolding IsStrictlySortedBy
  ascends =
      ((by_z x y z w zs, (by_y x y v z z ys, (by_y x y v z w ys, (far y z y z, (far y z y w, (far y z v z, (far y z v w, tt))))))), ((by_y x y v w z ys, (by_y x y v w w ys, (far y w y z, (far y w y w, (far y w v z, (far y w v w, tt)))))), ((by_z x v z w zs, (far v z y z, (far v z y w, (far v z v z, (far v z v w, tt))))), ((far v w y z, (far v w y w, (far v w v z, (far v w v w, tt)))), ((by_z u y z w zs, (by_y u y v z z ys, (by_y u y v z w ys, tt))), ((by_y u y v w z ys, (by_y u y v w w ys, tt)), ((by_z u v z w zs, tt), (tt, tt))))))))
    where
      far : (b c d e : ℤ) → vector_cmp (vector x b c) (vector u d e) ≡ Less
      far b c d e = by_x x u b d c e xs

  volume : det (minus (vector u y z) (vector x y z)) (minus (vector x v z) (vector x y z)) (minus (vector x y w) (vector x y z)) ≡ (u -ℤ x) *ℤ ((v -ℤ y) *ℤ (w -ℤ z))
  volume =
      let low = vectorE (at 0) (at 1) (at 2) in
      ring (x ∷ y ∷ z ∷ u ∷ v ∷ w ∷ [])
      (detE (minusE (vectorE (at 3) (at 1) (at 2)) low) (minusE (vectorE (at 0) (at 4) (at 2)) low) (minusE (vectorE (at 0) (at 1) (at 5)) low))
      ((at 3 ⊖ at 0) ⊗ ((at 4 ⊖ at 1) ⊗ (at 5 ⊖ at 2)))
      tt

  solid : IsSolid (box_corners (vector x y z) (vector u v w))
  solid = record {
    a = vector x y z;
    b = vector u y z;
    c = vector x v z;
    e = vector x y w;
    a_in = (0, lit< tt, refl);
    b_in = (4, lit< tt, refl);
    c_in = (2, lit< tt, refl);
    e_in = (1, lit< tt, refl);
    apart = λ zero. apart (sym volume ∙ zero);
  }
    where
      apart : (u -ℤ x) *ℤ ((v -ℤ y) *ℤ (w -ℤ z)) ≢ pos 0
      apart zero =
          let positive = pos_mul (u -ℤ x) ((v -ℤ y) *ℤ (w -ℤ z)) (omega (arith, ints, xs)) (pos_mul (v -ℤ y) (w -ℤ z) (omega (arith, ints, ys)) (omega (arith, ints, zs))) in
          omega (arith, ints, positive, zero)

abbrev points_of : V3 × V3 → List V3
points_of corners = box_corners corners.0 corners.1

pub box_piece : (c : V3 × V3) → IsBox c → IsPiece (points_of c)
box_piece (low, high) is = record {
  ascending = ascends low.x low.y low.z high.x high.y high.z is.x is.y is.z;
  at_least = lit≤ tt;
  at_most = lit≤ tt;
  within = All-from_recursion (IsWithin POINT) (box_corners low high) (is.low, (within low low high is.low is.low is.high, (within low high low is.low is.high is.low, (within low high high is.low is.high is.high, (within high low low is.high is.low is.low, (within high low high is.high is.low is.high, (within high high low is.high is.high is.low, (is.high, tt))))))));
  solid = solid low.x low.y low.z high.x high.y high.z is.x is.y is.z;
}
  where
    within : (a b c : V3) → IsWithin POINT a → IsWithin POINT b → IsWithin POINT c → IsWithin POINT (vector a.x b.y c.z)
    within a b c ha hb hc = record { x = ha.x; y = hb.y; z = hc.z }

pub box_hull : (c : V3 × V3) → IsBox c → IsHull (points_of c) (points_of c)
box_hull c is =
    let piece = box_piece c is in
    record { lists = record { ascending = piece.ascending; each = λ x h. h; all = λ x h. h }; piece = piece }

-- the hulls of boxes are their points
pub hulls_are : (cs : List (V3 × V3)) (hulls : List (List V3)) → All IsBox cs → AllZip IsHull (map points_of cs) hulls → hulls ≡ map points_of cs
hulls_are [] [] are zip = refl
hulls_are [] (h ∷ hulls) are zip = absurd zip
hulls_are (c ∷ cs) [] are zip = absurd zip
hulls_are (c ∷ cs) (h ∷ hulls) are zip =
    let same : h ≡ points_of c = Lists-unique vector_cmp vector_total vector_exact _ h (points_of c) zip.0.lists (box_hull c (All-head IsBox c cs are)).lists in
    let rest : hulls ≡ map points_of cs = hulls_are cs hulls (All-tail IsBox c cs are) zip.1 in
    ap (λ (x : List V3). x ∷ hulls) same ∙ ap (λ (xs : List (List V3)). points_of c ∷ xs) rest

-- none of them has no hull
pub all_have_hulls : (cs : List (V3 × V3)) → All IsBox cs → Any HasNoHull (map points_of cs) → ⊥
all_have_hulls cs are (k, body, lt, is, none) =
    let some = All-map (λ (x : List V3). HasNoHull x → ⊥) points_of cs (All-weaker IsBox (λ c. HasNoHull (points_of c) → ⊥) (λ c box none. none (points_of c) (box_hull c box)) cs are) in
    some k body lt (subst HasNoHull (sym is) none)

pub union_only : (cs : List (V3 × V3)) (part : Part) → All IsBox cs → IsUnion (map points_of cs) part → part ≡ part_of_boxes cs
union_only cs part are is = λ i. record { name = is.name i; pieces = hulls_are cs part.pieces are is.pieces i }
