-- A plane that three corners of a polygon give: what lies in it, and that all such planes have the same two sides.
use Rattle.std.proofs.Common.{◌≡◌, ◌≢◌, ◌<◌, ◌⊎◌, zero, suc, ℤ, pos, negsuc, ◌+ℤ◌, ◌-ℤ◌, ◌*ℤ◌, ◌≤ℤ◌, ◌<ℤ◌, List, [], ◌∷◌, length, All, Contains, inl, inr, refl, ap, sym, subst, ◌∙◌, arith, ⊎_elim}
use Rattle.std.proofs.lemmas.Int.{ints}
use Rattle.std.proofs.lemmas.List.Elements.{All-contains, All-weaker}
use Rattle.staat_vec.specs.declared.vector.V3.{V3}
use Rattle.staat_vec.specs.declared.vector.Sign.TheVariants.{Neg, Zero, Pos}
use Rattle.staat_vec.specs.Vectors.{origin, minus, dot, cross, sign}
use Rattle.staat_vec.proofs.Order.{negative_mul, nonneg_mul, pos_mul, positive_nonneg}
use Rattle.staat_vec.proofs.Ring.{ring, ◌⊕◌, ◌⊖◌, ◌⊗◌}
use Rattle.staat_vec.proofs.Unique.{Contains-cases, Contains-nothing}
use Rattle.staat_vec.proofs.VecRing.{cross_self, scale, values, ring3, v0, v1, v2, v3, originE, dotE, crossE, minusE}
use Rattle.staat_model.proofs.Flat.{on_plane}
use Rattle.staat_model.proofs.Mixes.{dot_origin}
use Rattle.staat_mesh.specs.Polygons.{Polygon}
use Rattle.staat_mesh.specs.Sides.{IsBadFace, IsSupporting, IsCut, LiesInPlane, few, off_plane, on_line, side}
use Rattle.staat_mesh.proofs.LineLemmas.{no_way}
use Rattle.staat_vec.proofs.VectorLists.{one_of_two}
use Rattle.staat_vec.proofs.Signs.{zero_sign, sign_positive, sign_negative}
use Rattle.staat_vec.proofs.VectorLaws.{cross_twice, no_multiples, some_square, det_dot}
use Rattle.staat_vec.proofs.Integers.{cancel_positive, two_negatives, mixed_product}

-- ---- sides as signs of products with the normal

abbrev normal : V3 → V3 → V3 → V3
normal a b c = cross (minus b a) (minus c a)

not_above : (z : ℤ) → sign z ≢ Pos → z ≤ℤ pos 0
not_above (pos zero) ne = omega (arith, ints)
not_above (pos (suc n)) ne = absurd (ne refl)
not_above (negsuc n) ne = omega (arith, ints)

not_below : (z : ℤ) → sign z ≢ Neg → pos 0 ≤ℤ z
not_below (pos n) ne = omega (arith, ints)
not_below (negsuc n) ne = absurd (ne refl)

side-normal : (a b c p : V3) → side a b c p ≡ sign (dot (normal a b c) (minus p a))
side-normal a b c p = ap sign (det_dot (minus b a) (minus c a) (minus p a))

-- the corners are at no height
level : (polygon : Polygon) (a b c : V3) → LiesInPlane polygon a b c → All (λ p. dot (normal a b c) (minus p a) ≡ pos 0) polygon
level polygon a b c plane =
    All-weaker (λ p. side a b c p ≡ Zero) (λ p. dot (normal a b c) (minus p a) ≡ pos 0) (λ p e. zero_sign (dot (normal a b c) (minus p a)) (sym (side-normal a b c p) ∙ e)) polygon plane.flat

-- ---- a polygon that has a plane is no bad face

no_turn : (u a : V3) → cross u (minus a a) ≡ origin
no_turn u a = ring3 (values (u ∷ a ∷ []) []) (crossE v0 (minusE v1 v1)) originE (tt, tt, tt)

-- fewer than three positions do not hold three different ones
too_few : (positions : List V3) (a b c : V3) → length positions < 3 → Contains positions a → Contains positions b → Contains positions c → cross (minus b a) (minus c a) ≢ origin → ⊥
too_few [] a b c lt ha hb hc apart = absurd (Contains-nothing a ha)
too_few (x ∷ []) a b c lt ha hb hc apart =
    apart (ap (λ q. cross (minus q a) (minus c a)) (only x b hb ∙ sym (only x a ha)) ∙ no_way a (minus c a))
  where
    only : (x p : V3) → Contains (x ∷ []) p → p ≡ x
    only x p h = ⊎_elim (λ e. e) (λ later. absurd (Contains-nothing p later)) (Contains-cases x [] p h)
too_few (x ∷ y ∷ []) a b c lt ha hb hc apart = three (one_of_two x y a ha) (one_of_two x y b hb) (one_of_two x y c hc)
  where
    first_second : a ≡ b → ⊥
    first_second e = apart (ap (λ q. cross (minus q a) (minus c a)) (sym e) ∙ no_way a (minus c a))

    first_third : a ≡ c → ⊥
    first_third e = apart (ap (λ q. cross (minus b a) (minus q a)) (sym e) ∙ no_turn (minus b a) a)

    second_third : b ≡ c → ⊥
    second_third e = apart (ap (λ q. cross (minus b a) (minus q a)) (sym e) ∙ cross_self (minus b a))

    three : (a ≡ x) ⊎ (a ≡ y) → (b ≡ x) ⊎ (b ≡ y) → (c ≡ x) ⊎ (c ≡ y) → ⊥
    three (inl e) (inl f) g = first_second (e ∙ sym f)
    three (inl e) (inr f) (inl g) = first_third (e ∙ sym g)
    three (inl e) (inr f) (inr g) = second_third (f ∙ sym g)
    three (inr e) (inr f) g = first_second (e ∙ sym f)
    three (inr e) (inl f) (inl g) = second_third (f ∙ sym g)
    three (inr e) (inl f) (inr g) = first_third (e ∙ sym g)
too_few (x ∷ y ∷ z ∷ rest) a b c lt ha hb hc apart = absurd (omega (arith, lt))

pub plane_not_bad : (polygon : Polygon) (a b c : V3) → LiesInPlane polygon a b c → IsBadFace polygon → ⊥
plane_not_bad polygon a b c plane (few positions lists short) =
    too_few positions a b c short (lists.all a plane.a_in) (lists.all b plane.b_in) (lists.all c plane.c_in) plane.apart
plane_not_bad polygon a b c plane (on_line line) = plane.apart (line a b c plane.a_in plane.b_in plane.c_in)
plane_not_bad polygon a b c plane (off_plane solid) = on_plane (normal a b c) a polygon plane.apart (level polygon a b c plane) solid

-- ---- two planes of one polygon

-- a normal of a plane through a is square to what leads from one of its points to another
between : (n a p q : V3) → dot n (minus q p) ≡ dot n (minus q a) -ℤ dot n (minus p a)
between n a p q = ring (values (n ∷ a ∷ p ∷ q ∷ []) []) (dotE v0 (minusE v3 v2)) (dotE v0 (minusE v3 v1) ⊖ dotE v0 (minusE v2 v1)) tt

square_between : (x y z : ℤ) → z ≡ x -ℤ y → x ≡ pos 0 → y ≡ pos 0 → z ≡ pos 0
square_between x y z e f g = omega (arith, ints)

same_height : (x y z : ℤ) → z ≡ x -ℤ y → y ≡ pos 0 → z ≡ x
same_height x y z e g = omega (arith, ints)

-- heights over two parallel planes
heights : (n m w : V3) → dot n n *ℤ dot m w ≡ dot n m *ℤ dot n w +ℤ dot (cross n m) (cross n w)
heights n m w = ring (values (n ∷ m ∷ w ∷ []) []) (dotE v0 v0 ⊗ dotE v1 v2) (dotE v0 v1 ⊗ dotE v0 v2 ⊕ dotE (crossE v0 v1) (crossE v0 v2)) tt

squares : (n m : V3) → dot n m *ℤ dot n m ≡ dot n n *ℤ dot m m -ℤ dot (cross n m) (cross n m)
squares n m = ring (values (n ∷ m ∷ []) []) (dotE v0 v1 ⊗ dotE v0 v1) (dotE v0 v0 ⊗ dotE v1 v1 ⊖ dotE (crossE v0 v1) (crossE v0 v1)) tt

some_product : (k x y : ℤ) → k *ℤ k ≡ x -ℤ y → y ≡ pos 0 → pos 0 <ℤ x → k ≢ pos 0
some_product k x y e f g h = contra (k *ℤ k) x y e f g (ap (λ t. t *ℤ t) h)
  where
    contra : (z x y : ℤ) → z ≡ x -ℤ y → y ≡ pos 0 → pos 0 <ℤ x → z ≡ pos 0 → ⊥
    contra z x y e f g h = omega (arith, ints)

-- a product with a positive number has the other's sign
positive_from : (s x z : ℤ) → pos 0 <ℤ s → s *ℤ x ≡ z → pos 0 <ℤ z → pos 0 <ℤ x
positive_from s x z hs e hz = cancel_positive s x hs (subst (λ t. pos 0 <ℤ t) (sym e) hz)

negative_from : (s x z : ℤ) → pos 0 <ℤ s → s *ℤ x ≡ z → z <ℤ pos 0 → x <ℤ pos 0
negative_from s (pos n) z hs e hz = let up : pos 0 ≤ℤ (s *ℤ pos n) = nonneg_mul s (pos n) (positive_nonneg s hs) (omega (arith, ints)) in absurd (clash (s *ℤ pos n) z e hz up)
  where
    clash : (t z : ℤ) → t ≡ z → z <ℤ pos 0 → pos 0 ≤ℤ t → ⊥
    clash t z e h k = omega (arith, ints)
negative_from s (negsuc n) z hs e hz = omega (arith, ints)

-- two numbers of opposite signs, times one number other than 0 and divided by a positive one, have opposite signs
opposite : (s k x y p q : ℤ) → pos 0 <ℤ s → k ≢ pos 0 → s *ℤ x ≡ k *ℤ p → s *ℤ y ≡ k *ℤ q → pos 0 <ℤ p → q <ℤ pos 0 → ((pos 0 <ℤ x) × (y <ℤ pos 0)) ⊎ ((x <ℤ pos 0) × (pos 0 <ℤ y))
opposite s (pos zero) x y p q hs ne e f hp hq = absurd (ne refl)
opposite s (pos (suc n)) x y p q hs ne e f hp hq =
    let up : pos 0 <ℤ pos (suc n) = omega (arith, ints) in
    inl (positive_from s x (pos (suc n) *ℤ p) hs e (pos_mul (pos (suc n)) p up hp), negative_from s y (pos (suc n) *ℤ q) hs f (negative_mul (pos (suc n)) q up hq))
opposite s (negsuc n) x y p q hs ne e f hp hq =
    let down : negsuc n <ℤ pos 0 = omega (arith, ints) in
    inr (negative_from s x (negsuc n *ℤ p) hs e (mixed_product (negsuc n) p down hp), positive_from s y (negsuc n *ℤ q) hs f (two_negatives (negsuc n) q down hq))

at_no_height : (polygon : Polygon) (a b c p : V3) → LiesInPlane polygon a b c → Contains polygon p → dot (normal a b c) (minus p a) ≡ pos 0
at_no_height polygon a b c p plane h = All-contains (λ q. dot (normal a b c) (minus q a) ≡ pos 0) polygon p (level polygon a b c plane) h

parallel_normals : (polygon : Polygon) (a b c x y z : V3) → LiesInPlane polygon a b c → LiesInPlane polygon x y z → cross (normal a b c) (normal x y z) ≡ origin
parallel_normals polygon a b c x y z one other =
    let n = normal a b c in
    let u = minus y x in
    let v = minus z x in
    let at_x = at_no_height polygon a b c x one other.a_in in
    let first : dot n u ≡ pos 0 = square_between _ _ _ (between n a x y) (at_no_height polygon a b c y one other.b_in) at_x in
    let second : dot n v ≡ pos 0 = square_between _ _ _ (between n a x z) (at_no_height polygon a b c z one other.c_in) at_x in
    cross_twice n u v ∙ (λ i. minus (scale (second i) u) (scale (first i) v)) ∙ no_multiples u v

-- heights over two planes of the polygon differ by a factor
same_factor : (polygon : Polygon) (a b c x y z p : V3) → LiesInPlane polygon a b c → LiesInPlane polygon x y z → dot (normal a b c) (normal a b c) *ℤ dot (normal x y z) (minus p x) ≡ dot (normal a b c) (normal x y z) *ℤ dot (normal a b c) (minus p a)
same_factor polygon a b c x y z p one other =
    let n = normal a b c in
    let m = normal x y z in
    let w = minus p x in
    let square : cross n m ≡ origin = parallel_normals polygon a b c x y z one other in
    heights n m w
    ∙ plus_zero (dot n m *ℤ dot n w) (dot (cross n m) (cross n w)) (ap (λ o. dot o (cross n w)) square ∙ dot_origin (cross n w))
    ∙ ap (λ t. dot n m *ℤ t) (same_height (dot n (minus p a)) (dot n (minus x a)) (dot n w) (between n a x p) (at_no_height polygon a b c x one other.a_in))
  where
    plus_zero : (s t : ℤ) → t ≡ pos 0 → s +ℤ t ≡ s
    plus_zero s t e = omega (arith, ints)

normals_meet : (polygon : Polygon) (a b c x y z : V3) → LiesInPlane polygon a b c → LiesInPlane polygon x y z → dot (normal a b c) (normal x y z) ≢ pos 0
normals_meet polygon a b c x y z one other =
    let n = normal a b c in
    let m = normal x y z in
    let square : cross n m ≡ origin = parallel_normals polygon a b c x y z one other in
    some_product (dot n m) (dot n n *ℤ dot m m) (dot (cross n m) (cross n m)) (squares n m)
    (ap (λ o. dot o (cross n m)) square ∙ dot_origin (cross n m))
    (pos_mul (dot n n) (dot m m) (some_square n one.apart) (some_square m other.apart))

apart_signs : (x y : ℤ) → ((pos 0 <ℤ x) × (y <ℤ pos 0)) ⊎ ((x <ℤ pos 0) × (pos 0 <ℤ y)) → ((x ≤ℤ pos 0) × (y ≤ℤ pos 0)) ⊎ ((pos 0 ≤ℤ x) × (pos 0 ≤ℤ y)) → ⊥
apart_signs x y (inl h) (inl g) = omega (arith, ints, h.0, g.0)
apart_signs x y (inl h) (inr g) = omega (arith, ints, h.1, g.1)
apart_signs x y (inr h) (inl g) = omega (arith, ints, h.1, g.1)
apart_signs x y (inr h) (inr g) = omega (arith, ints, h.0, g.0)

-- points on both sides of one plane of the polygon are on both sides of each
pub border_not_cut : (points : List V3) (polygon : Polygon) → IsSupporting points polygon → IsCut points polygon → ⊥
border_not_cut points polygon border cut =
    let n = normal cut.a cut.b cut.c in
    let m = normal border.a border.b border.c in
    let height : V3 → ℤ = λ p. dot m (minus p border.a) in
    let ahead : pos 0 <ℤ dot n (minus cut.ahead cut.a) = sign_positive _ (sym (side-normal cut.a cut.b cut.c cut.ahead) ∙ cut.ahead_side) in
    let behind : dot n (minus cut.behind cut.a) <ℤ pos 0 = sign_negative _ (sym (side-normal cut.a cut.b cut.c cut.behind) ∙ cut.behind_side) in
    let signs = opposite (dot n n) (dot n m) (height cut.ahead) (height cut.behind) (dot n (minus cut.ahead cut.a)) (dot n (minus cut.behind cut.a)) (some_square n cut.plane.apart)
    (normals_meet polygon cut.a cut.b cut.c border.a border.b border.c cut.plane border.plane)
    (same_factor polygon cut.a cut.b cut.c border.a border.b border.c cut.ahead cut.plane border.plane)
    (same_factor polygon cut.a cut.b cut.c border.a border.b border.c cut.behind cut.plane border.plane) ahead behind in
    apart_signs (height cut.ahead) (height cut.behind) signs (one_side points polygon border cut.ahead cut.behind cut.ahead_in cut.behind_in)
  where
    one_side : (points : List V3) (polygon : Polygon) (border : IsSupporting points polygon) (p q : V3) → Contains points p → Contains points q → ((dot (normal border.a border.b border.c) (minus p border.a) ≤ℤ pos 0) × (dot (normal border.a border.b border.c) (minus q border.a) ≤ℤ pos 0)) ⊎ ((pos 0 ≤ℤ dot (normal border.a border.b border.c) (minus p border.a)) × (pos 0 ≤ℤ dot (normal border.a border.b border.c) (minus q border.a)))
    one_side points polygon border p q hp hq =
        let is : (r : V3) → side border.a border.b border.c r ≡ sign (dot (normal border.a border.b border.c) (minus r border.a)) = side-normal border.a border.b border.c in
        elim border.one_side [
          | inl none ↦ inl (
            not_above _ (λ e. All-contains (λ r. side border.a border.b border.c r ≢ Pos) points p none hp (is p ∙ e)),
            not_above _ (λ e. All-contains (λ r. side border.a border.b border.c r ≢ Pos) points q none hq (is q ∙ e)),
          )
          | inr none ↦ inr (
            not_below _ (λ e. All-contains (λ r. side border.a border.b border.c r ≢ Neg) points p none hp (is p ∙ e)),
            not_below _ (λ e. All-contains (λ r. side border.a border.b border.c r ≢ Neg) points q none hq (is q ∙ e)),
          )
        ]
