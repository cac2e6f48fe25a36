-- The differences of two lists of points: which vectors they are, and that those of solid points span space.
use Rattle.std.proofs.Common.{◌≡◌, ◌≢◌, zero, suc, sym, ap, subst, ◌∙◌, arith, ℤ, pos, neg_ℤ, inl, inr, List, [], ◌∷◌, map, Contains}
use Rattle.std.proofs.lemmas.Int.{ints}
use Rattle.std.proofs.lemmas.List.Elements.{All-contains, Contains-append_cases, Contains-append_left, Contains-append_right}
use Rattle.staat_vec.specs.declared.vector.V3.{V3}
use Rattle.staat_vec.specs.Vectors.{dot, cross, det, minus, origin, plus}
use Rattle.staat_vec.proofs.Ring.{num, ◌⊖◌, from_zero, opp, ring}
use Rattle.staat_vec.proofs.VecRing.{dotE, crossE, detE, minusE, originE, plusE, ring3, same_vector, scale, timesE, values, v0, v1, v2, v3}
use Rattle.staat_model.specs.Pieces.{IsSolid}
use Rattle.staat_model.specs.Cones.{differences, IsSpanning}
use Rattle.staat_vec.proofs.Integers.{other_factor_zero}
use Rattle.staat_vec.proofs.ListLaws.{Contains-map, Contains-there}
use Rattle.staat_vec.proofs.Unique.{Contains-front}

pub from_map : {X Y : Type 0} (f : X → Y) (xs : List X) (y : Y) → Contains (map f xs) y → (x : X) × Contains xs x × (y ≡ f x)
from_map f [] y (k, lt, e) = absurd (omega arith)
from_map f (x ∷ xs) y (zero, lt, e) = (x, Contains-front x xs, sym e)
from_map f (x ∷ xs) y (suc k, lt, e) = let (z, c, q) = from_map f xs y (k, omega arith, e) in (z, Contains-there x z xs c, q)

pub in_differences : (ps qs : List V3) (p q : V3) → Contains ps p → Contains qs q → Contains (differences ps qs) (minus q p)
in_differences [] qs p q (k, lt, e) in_q = absurd (omega arith)
in_differences (x ∷ ps) qs p q (zero, lt, e) in_q = Contains-append_left (map (λ q. minus q x) qs) (differences ps qs) (minus q p) (subst (λ z. Contains (map (λ q. minus q x) qs) (minus q z)) e (Contains-map (λ q. minus q x) qs q in_q))
in_differences (x ∷ ps) qs p q (suc k, lt, e) in_q = Contains-append_right (map (λ q. minus q x) qs) (differences ps qs) (minus q p) (in_differences ps qs p q (k, omega arith, e) in_q)

-- the two points of a difference
pub from_differences : (ps qs : List V3) (v : V3) → Contains (differences ps qs) v → (p q : V3) × Contains ps p × Contains qs q × (v ≡ minus q p)
from_differences [] qs v (k, lt, e) = absurd (omega (arith, lt))
from_differences (p ∷ ps) qs v has = elim (Contains-append_cases (map (λ q. minus q p) qs) (differences ps qs) v has) [
  | inl c ↦ let (q, in_q, e) = from_map (λ q. minus q p) qs v c in (p, q, Contains-front p ps, in_q, e)
  | inr c ↦ let (x, q, in_x, in_q, e) = from_differences ps qs v c in (x, q, Contains-there p x ps in_x, in_q, e)
]

-- a vector at right angles to three that do not lie in one plane
pub three_across : (u v w n : V3) → det u v w ≢ pos 0 → dot u n ≡ pos 0 → dot v n ≡ pos 0 → dot w n ≡ pos 0 → n ≡ origin
three_across u v w n some e f g =
    same_vector n origin
    (other_factor_zero (det u v w) n.x some (ap (λ v. v.x) none))
    (other_factor_zero (det u v w) n.y some (ap (λ v. v.y) none))
    (other_factor_zero (det u v w) n.z some (ap (λ v. v.z) none))
  where
    -- by Cramer's rule
    sum : ℤ → ℤ → ℤ → V3
    sum x y z = plus (plus (scale x (cross v w)) (scale y (cross w u))) (scale z (cross u v))

    none : scale (det u v w) n ≡ origin
    none =
        ring3 (values (u ∷ v ∷ w ∷ n ∷ []) []) (timesE (detE v0 v1 v2) v3)
        (plusE (plusE (timesE (dotE v0 v3) (crossE v1 v2)) (timesE (dotE v1 v3) (crossE v2 v0))) (timesE (dotE v2 v3) (crossE v0 v1))) (tt, tt, tt)
        ∙ (λ i. sum (e i) (f i) (g i))
        ∙ ring3 (values (cross v w ∷ cross w u ∷ cross u v ∷ []) []) (plusE (plusE (timesE (num (pos 0)) v0) (timesE (num (pos 0)) v1)) (timesE (num (pos 0)) v2)) originE (tt, tt, tt)

-- no plane holds solid points
pub level_solid : (n : V3) (m : ℤ) (ps : List V3) → IsSolid ps → ((p : V3) → Contains ps p → dot n p ≡ m) → n ≡ origin
level_solid n m ps solid at =
    let s = solid in
    three_across (minus s.b s.a) (minus s.c s.a) (minus s.e s.a) n s.apart (side s.b s.b_in) (side s.c s.c_in) (side s.e s.e_in)
  where
    side : (p : V3) → Contains ps p → dot (minus p solid.a) n ≡ pos 0
    side p p_in =
        ring (values (n ∷ p ∷ solid.a ∷ []) []) (dotE (minusE v1 v2) v0) (dotE v0 v1 ⊖ dotE v0 v2) tt
        ∙ omega (arith, ints, at p p_in, at solid.a solid.a_in)

-- three members that do not lie in one plane
pub span_from_three : (vs : List V3) (u v w : V3) → Contains vs u → Contains vs v → Contains vs w → det u v w ≢ pos 0 → IsSpanning vs
span_from_three vs u v w in_u in_v in_w some n h =
    three_across u v w n some (All-contains (λ v. dot v n ≡ pos 0) vs u h in_u) (All-contains (λ v. dot v n ≡ pos 0) vs v h in_v) (All-contains (λ v. dot v n ≡ pos 0) vs w h in_w)

pub differences_span_lemma : (ps qs : List V3) (q : V3) → IsSolid ps → Contains qs q → IsSpanning (differences ps qs)
differences_span_lemma ps qs q solid in_q n h = level_solid n (dot n q) ps solid at
  where
    at : (p : V3) → Contains ps p → dot n p ≡ dot n q
    at p p_in =
        let flat : dot (minus q p) n ≡ pos 0 = All-contains (λ v. dot v n ≡ pos 0) (differences ps qs) (minus q p) h (in_differences ps qs p q p_in in_q) in
        from_zero (dot n p) (dot n q) (ring (values (n ∷ p ∷ q ∷ []) []) (dotE v0 v1 ⊖ dotE v0 v2) (opp (dotE (minusE v2 v1) v0)) tt ∙ ap neg_ℤ flat)
