-- A list that spans space, with a vector that has all members on its positive side and y on the negative one: some cross product of two members has that too.
use Rattle.std.proofs.Common.{◌≡◌, zero, suc, ◌≢◌, ap, ◌∙◌, arith, ℤ, pos, negsuc, ◌-ℤ◌, ◌*ℤ◌, ◌≤ℤ◌, ◌<ℤ◌, inl, inr, List, [], ◌∷◌, Contains}
use Rattle.std.proofs.lemmas.Int.{ints, by_lt_z}
use Rattle.std.proofs.lemmas.List.Elements.{All-weaker}
use Rattle.staat_vec.specs.declared.vector.V3.{V3}
use Rattle.staat_vec.specs.Vectors.{dot, cross, origin}
use Rattle.staat_model.specs.Cones.{IsAbove, IsSpanning}
use Rattle.staat_vec.proofs.Ring.{at, num, ◌⊖◌, ◌⊗◌, ring, ring_by, ring_by_two}
use Rattle.staat_vec.proofs.VecRing.{dotE, crossE, vectorE, values, v0, v1, v2, v3, v4, dot_cross_left, dot_cross_right}
use Rattle.staat_vec.proofs.Order.{negative_mul, same_side, zero_factor, turned_sign, negative_apart, negative_is, square_sign}
use Rattle.staat_model.proofs.Mixes.{dot_origin}
use Rattle.staat_model.proofs.Tilt.{turn, Turned}
use Rattle.staat_vec.proofs.VectorLaws.{dot_origin as dot_origin_right}
use Rattle.staat_vec.proofs.Integers.{product_zero}

-- a cross product of two members that has all members on its positive side, and is not zero
abbrev pub IsEdge : List V3 → V3 → V3 → Type 0
IsEdge vs g h = Contains vs g × Contains vs h × (cross g h ≢ origin) × IsAbove (cross g h) vs

not_positive_zero : (a : ℤ) → pos 0 <ℤ (a *ℤ a) → pos 0 -ℤ a ≡ pos 0 → ⊥
not_positive_zero (pos zero) h e = absurd h.lt
not_positive_zero (pos (suc a)) h e = omega (arith, ints)
not_positive_zero (negsuc a) h e = omega (arith, ints)

-- a vector at right angles to y
pub perpendicular : (y : V3) → (u : V3) × (u ≢ origin) × (dot y u ≡ pos 0)
perpendicular y = elim (square_sign y.x) [
  | inl e ↦ (
    record { x = pos 1; y = pos 0; z = pos 0 },
    (λ q. let one : pos 1 ≡ pos 0 = ap (λ v. v.x) q in absurd (omega (arith, ints))),
    ring_by (values (y ∷ []) []) (dotE v0 (vectorE (num (pos 1)) (num (pos 0)) (num (pos 0)))) (num (pos 0)) (num (pos 1)) (at 0) (num (pos 0)) e tt,
  )
  | inr p ↦ (
    record { x = y.y; y = pos 0 -ℤ y.x; z = pos 0 },
    (λ q. not_positive_zero y.x p (ap (λ v. v.y) q)),
    ring (values (y ∷ []) []) (dotE v0 (vectorE (at 1) (num (pos 0) ⊖ at 0) (num (pos 0)))) (num (pos 0)) tt,
  )
]

-- what follows where w is parallel to y
crossing : (w y u x : V3) → cross w y ≡ origin → dot y u ≡ pos 0 → dot w u *ℤ dot y x ≡ pos 0
crossing w y u x e f =
    ring_by (values (w ∷ y ∷ u ∷ x ∷ []) []) (dotE v0 v2 ⊗ dotE v1 v3) (dotE (crossE v0 v1) (crossE v2 v3)) (dotE v0 v3) (dotE v1 v2) (num (pos 0)) f tt
    ∙ ap (λ c. dot c (cross u x)) e ∙ dot_origin (cross u x)

pub cross_swap : (v w y : V3) → dot y (cross w v) ≡ negsuc 0 *ℤ dot y (cross v w)
cross_swap v w y = ring (values (v ∷ w ∷ y ∷ []) []) (dotE v2 (crossE v1 v0)) (num (negsuc 0) ⊗ dotE v2 (crossE v0 v1)) tt

-- r and the cross product of g and h are parallel, where r is at right angles to both
parallel : (v y g h r : V3) → dot g r ≡ pos 0 → dot h r ≡ pos 0 → dot v (cross g h) *ℤ dot y r ≡ dot v r *ℤ dot y (cross g h)
parallel v y g h r e f =
    ring_by_two (values (v ∷ y ∷ g ∷ h ∷ r ∷ []) []) (dotE v0 (crossE v2 v3) ⊗ dotE v1 v4) (dotE v0 v4 ⊗ dotE v1 (crossE v2 v3))
    (dotE (crossE v0 v1) v3) (dotE v2 v4) (num (pos 0)) (num (pos 0) ⊖ dotE (crossE v0 v1) v2) (dotE v3 v4) (num (pos 0)) e f tt

edge_from : (vs : List V3) (y r g h : V3) → IsAbove r vs → Contains vs g → Contains vs h → dot g r ≡ pos 0 → dot h r ≡ pos 0 → dot y r <ℤ pos 0 → dot y (cross g h) <ℤ pos 0 → IsEdge vs g h
edge_from vs y r g h up in_g in_h e f low side = (
  in_g,
  in_h,
  (λ q. negative_apart (dot y (cross g h)) side (ap (dot y) q ∙ dot_origin_right y)),
  All-weaker (λ v. pos 0 ≤ℤ dot v r) (λ v. pos 0 ≤ℤ dot v (cross g h)) (λ v p. same_side (dot v (cross g h)) (dot y r) (dot v r) (dot y (cross g h)) (parallel v y g h r e f) low side p) vs up,
)

EdgeBelow : List V3 → V3 → Type 0
EdgeBelow vs y = (g h : V3) × IsEdge vs g h × (dot y (cross g h) <ℤ pos 0)

either_edge : (vs : List V3) (y r g h : V3) → IsAbove r vs → Contains vs g → Contains vs h → dot g r ≡ pos 0 → dot h r ≡ pos 0 → dot y r <ℤ pos 0 → dot y (cross g h) ≢ pos 0 → EdgeBelow vs y
unfolding EdgeBelow
either_edge vs y r g h up in_g in_h e f low some =
    by_lt_z {P = EdgeBelow vs y} (dot y (cross g h)) (pos 0)
    (λ neg. (g, h, edge_from vs y r g h up in_g in_h e f low neg, neg))
    (λ nonneg. let side = turned_sign (dot y (cross h g)) (dot y (cross g h)) (cross_swap g h y) nonneg some in
    (h, g, edge_from vs y r h g up in_h in_g f e low side, side))

second_turn : (vs : List V3) (y r u w : V3) → dot y r <ℤ pos 0 → Contains vs w → dot w r ≡ pos 0 → Turned vs r (cross w y) → EdgeBelow vs y
unfolding Turned
second_turn vs y r u w low in_w e (s, up, v, in_v, apart, f, a, pa, keep) =
    either_edge vs y s w v up in_w in_v
    (keep w (dot_cross_left w y) ∙ product_zero a (dot w r) e)
    f
    (negative_is (dot y s) (a *ℤ dot y r) (keep y (dot_cross_right w y)) (negative_mul a (dot y r) pa low))
    (λ q. apart (ring (values (v ∷ w ∷ y ∷ []) []) (dotE v0 (crossE v1 v2)) (num (negsuc 0) ⊗ dotE v2 (crossE v1 v0)) tt ∙ product_zero (negsuc 0) (dot y (cross w v)) q))

first_turn : (vs : List V3) (x y u : V3) → IsSpanning vs → dot y x <ℤ pos 0 → dot y u ≡ pos 0 → Turned vs x u → EdgeBelow vs y
unfolding Turned
first_turn vs x y u spans low flat (r, up, w, in_w, apart, e, a, pa, keep) =
    second_turn vs y r u w
    (negative_is (dot y r) (a *ℤ dot y x) (keep y flat) (negative_mul a (dot y x) pa low))
    in_w e
    (turn vs r (cross w y) spans up (λ q. apart (zero_factor (dot w u) (dot y x) low (crossing w y u x q flat))))

pub edge_below : (vs : List V3) (x y : V3) → IsSpanning vs → IsAbove x vs → dot y x <ℤ pos 0 → (g h : V3) × IsEdge vs g h × (dot y (cross g h) <ℤ pos 0)
unfolding EdgeBelow
edge_below vs x y spans up low =
    let u = perpendicular y in
    first_turn vs x y u.0 spans low u.2 (turn vs x u.0 spans up u.1)
