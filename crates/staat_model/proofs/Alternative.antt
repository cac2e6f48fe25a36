-- For a list of vectors and a vector h, a multiple of h is a sum of multiples of the members, or some x has all members on its positive side and h on the negative one (Farkas, 1902).
use Rattle.std.proofs.Common.{◌≡◌, ℕ, zero, suc, ◌*◌, ◌≤◌, refl, sym, ap, ◌∙◌, arith, ℤ, pos, ◌+ℤ◌, ◌-ℤ◌, ◌*ℤ◌, neg_ℤ, ◌≤ℤ◌, ◌<ℤ◌, ◌⊎◌, inl, inr, ⊎_elim, List, [], ◌∷◌, length, map, mul-le-mul}
use Rattle.std.proofs.lemmas.Int.{by_lt_z}
use Rattle.std.proofs.lemmas.List.{length-map}
use Rattle.std.proofs.lemmas.List.Elements.{All-nil, All-cons, All-head, All-tail}
use lib.IntN.{+ℤ_invr}
use Rattle.staat_vec.specs.declared.vector.V3.{V3}
use Rattle.staat_vec.specs.Vectors.{dot, negative, plus, times, origin}
use Rattle.staat_vec.proofs.Ring.{Ex, at, ◌⊕◌, ◌⊖◌, ◌⊗◌, opp, ring, zero-mul_ℤ}
use Rattle.staat_vec.proofs.VecRing.{VEx, dotE, dot_negative, plusE, timesE, originE, values, v0, v1, v2, v3, scale, ring3}
use Rattle.staat_vec.proofs.Order.{as_nat, as_negative, coefficient_nonneg, negative_is, nonneg_is, nonneg_pos}
use Rattle.staat_model.specs.Meeting.{mix}
use Rattle.staat_model.specs.Cones.{IsAbove, IsCombined}
use Rattle.staat_model.proofs.Mixes.{mix_scale, mix_above, scale_origin, square_vector}
use Rattle.staat_vec.proofs.Integers.{negative_nonneg_clash, opposite_negative}
use Rattle.staat_vec.proofs.VectorLaws.{times_zero_plus}

-- some x has the members on its positive side and h strictly on the negative one
abbrev pub IsSeparated : List V3 → V3 → Type 0
IsSeparated vs h = (x : V3) × IsAbove x vs × (dot h x <ℤ pos 0)

abbrev pub Alternative : List V3 → V3 → Type 0
Alternative vs h = IsCombined vs h ⊎ IsSeparated vs h

-- v, moved along a into the plane of x
abbrev reduce : ℕ → V3 → V3 → V3 → V3
reduce n a x v = plus (times n v) (scale (dot v x) a)

abbrev reduceE : Ex → VEx → VEx → VEx → VEx
reduceE n a x v = plusE (timesE n v) (timesE (dotE v x) a)

-- what it does to the vectors on the other side of the product
abbrev lift : ℕ → V3 → V3 → V3 → V3
lift n a x y = plus (times n y) (scale (dot a y) x)

reduce_dot : (n : ℕ) (a x v y : V3) → dot (reduce n a x v) y ≡ dot v (lift n a x y)
reduce_dot n a x v y = ring (values (a ∷ x ∷ v ∷ y ∷ []) (pos n ∷ []))
    (dotE (reduceE (at 12) v0 v1 v2) v3)
    (dotE v2 (plusE (timesE (at 12) v3) (timesE (dotE v0 v3) v1))) tt

lift_kills : (n : ℕ) (a x y : V3) → dot a x ≡ neg_ℤ (pos n) → dot a (lift n a x y) ≡ pos 0
lift_kills n a x y e =
    ring (values (a ∷ x ∷ y ∷ []) (pos n ∷ [])) (dotE v0 (plusE (timesE (at 9) v2) (timesE (dotE v0 v2) v1))) ((at 9 ⊕ dotE v0 v1) ⊗ dotE v0 v2) tt
    ∙ ap (λ k. (pos n +ℤ k) *ℤ dot a y) e ∙ ap (λ k. k *ℤ dot a y) (+ℤ_invr (pos n)) ∙ zero-mul_ℤ (dot a y)

reduce_zero : (n : ℕ) (a x : V3) → origin ≡ reduce n a x origin
reduce_zero n a x = ring3 (values (a ∷ x ∷ []) (pos n ∷ [])) originE (reduceE (at 6) v0 v1 originE) (tt, tt, tt)

reduce_step : (n c : ℕ) (a x v m : V3) → plus (times c (reduce n a x v)) (reduce n a x m) ≡ reduce n a x (plus (times c v) m)
reduce_step n c a x v m =
    ring3 (values (a ∷ x ∷ v ∷ m ∷ []) (pos n ∷ pos c ∷ []))
    (plusE (timesE (at 13) (reduceE (at 12) v0 v1 v2)) (reduceE (at 12) v0 v1 v3))
    (reduceE (at 12) v0 v1 (plusE (timesE (at 13) v2) v3)) (tt, tt, tt)

mix_reduce : (n : ℕ) (a x : V3) (cs : List ℕ) (vs : List V3) → mix cs (map (reduce n a x) vs) ≡ reduce n a x (mix cs vs)
mix_reduce n a x [] vs = reduce_zero n a x
mix_reduce n a x (c ∷ cs) [] = reduce_zero n a x
mix_reduce n a x (c ∷ cs) (v ∷ vs) = ap (λ m. plus (times c (reduce n a x v)) m) (mix_reduce n a x cs vs) ∙ reduce_step n c a x v (mix cs vs)

-- an equation between reduced vectors, solved
gather : (k n c : ℕ) (h a x m : V3) → reduce n a x m ≡ times k (reduce n a x h) → dot m x -ℤ pos k *ℤ dot h x ≡ pos c
    → plus (times c a) (times n m) ≡ times (k * n) h
gather k n c h a x m e f =
    ap (λ z. plus (scale z a) (times n m)) (sym f)
    ∙ ring3 ρ (plusE (timesE (at 11 ⊖ at 9 ⊗ at 12) v1) (timesE (at 10) v2)) (plusE (plusE (timesE (at 10) v2) (timesE (at 11) v1)) (timesE (opp (at 9 ⊗ at 12)) v1)) (tt, tt, tt)
    ∙ ap (λ v. plus v (scale (neg_ℤ (pos k *ℤ dot h x)) a)) e
    ∙ ring3 ρ (plusE (timesE (at 9) (plusE (timesE (at 10) v0) (timesE (at 12) v1))) (timesE (opp (at 9 ⊗ at 12)) v1)) (timesE (at 9 ⊗ at 10) v0) (tt, tt, tt)
  where
    ρ : List ℤ
    ρ = values (h ∷ a ∷ m ∷ []) (pos k ∷ pos n ∷ dot m x ∷ dot h x ∷ [])

above_unmap : (n : ℕ) (a x y : V3) (vs : List V3) → IsAbove y (map (reduce n a x) vs) → IsAbove (lift n a x y) vs
above_unmap n a x y [] h = All-nil (λ v. pos 0 ≤ℤ dot v (lift n a x y))
above_unmap n a x y (v ∷ vs) h =
    All-cons (λ v. pos 0 ≤ℤ dot v (lift n a x y)) v vs
    (nonneg_is (dot v (lift n a x y)) (dot (reduce n a x v) y) (sym (reduce_dot n a x v y)) (All-head (λ v. pos 0 ≤ℤ dot v y) (reduce n a x v) (map (reduce n a x) vs) h))
    (above_unmap n a x y vs (All-tail (λ v. pos 0 ≤ℤ dot v y) (reduce n a x v) (map (reduce n a x) vs) h))

alternative_none : (h : V3) → Alternative [] h
alternative_none h = elim (square_vector h) [
  | inl e ↦ inl (record { k = 1; positive = omega arith; numbers = []; one_each = refl; is = scale_origin (pos 1) ∙ ap (times 1) (sym e) })
  | inr p ↦ inr (negative h, All-nil (λ v. pos 0 ≤ℤ dot v (negative h)), opposite_negative (dot h (negative h)) (dot h h) (dot_negative h h) p)
]

-- a is on the negative side of an x that separates the rest from h
module _ (n : ℕ) (one : 1 ≤ n) (a x h : V3) (vs : List V3) (up : IsAbove x vs) (down : dot a x ≡ neg_ℤ (pos n)) (low : dot h x <ℤ pos 0) where
  turned_combined : IsCombined (map (reduce n a x) vs) (reduce n a x h) → IsCombined (a ∷ vs) h
  turned_combined i =
      let cs = i.numbers in
      let m = mix cs vs in
      let c = as_nat (dot m x -ℤ pos i.k *ℤ dot h x) (coefficient_nonneg (dot m x) (dot h x) i.k (mix_above x cs vs up) low) in
      record {
        k = i.k * n;
        positive = mul-le-mul i.positive one;
        numbers = c.0 ∷ map (λ c. n * c) cs;
        one_each = ap suc (length-map cs (λ c. n * c) ∙ i.one_each ∙ length-map vs (reduce n a x));
        is = ap (λ m. plus (times c.0 a) m) (mix_scale n cs vs) ∙ gather i.k n c.0 h a x m (sym (mix_reduce n a x cs vs) ∙ i.is) c.1;
      }

  turned_separated : IsSeparated (map (reduce n a x) vs) (reduce n a x h) → IsSeparated (a ∷ vs) h
  turned_separated (y, above, below) = (
    lift n a x y,
    All-cons (λ v. pos 0 ≤ℤ dot v (lift n a x y)) a vs (nonneg_is (dot a (lift n a x y)) (pos 0) (lift_kills n a x y down) (nonneg_pos 0)) (above_unmap n a x y vs above),
    negative_is (dot h (lift n a x y)) (dot (reduce n a x h) y) (sym (reduce_dot n a x h y)) below,
  )

  turned : Alternative (map (reduce n a x) vs) (reduce n a x h) → Alternative (a ∷ vs) h
  turned (inl c) = inl (turned_combined c)
  turned (inr s) = inr (turned_separated s)

alternative_step : (a h : V3) (vs : List V3) → Alternative vs h → ((n : ℕ) (x : V3) → Alternative (map (reduce n a x) vs) (reduce n a x h)) → Alternative (a ∷ vs) h
alternative_step a h vs (inl c) ih = inl (record { k = c.k; positive = c.positive; numbers = 0 ∷ c.numbers; one_each = ap suc c.one_each; is = times_zero_plus a (mix c.numbers vs) ∙ c.is })
alternative_step a h vs (inr (x, up, low)) ih =
    by_lt_z {P = Alternative (a ∷ vs) h} (dot a x) (pos 0)
    (λ neg. let d = as_negative (dot a x) neg in turned d.0 d.1 a x h vs up d.2 low (ih d.0 x))
    (λ nonneg. inr (x, All-cons (λ v. pos 0 ≤ℤ dot v x) a vs nonneg up, low))

alternative_at : (n : ℕ) (vs : List V3) (h : V3) → length vs ≡ n → Alternative vs h
alternative_at n [] h e = alternative_none h
alternative_at zero (a ∷ vs) h e = absurd (omega arith)
alternative_at (suc n) (a ∷ vs) h e =
    alternative_step a h vs (alternative_at n vs h (omega arith))
    (λ k x. alternative_at n (map (reduce k a x) vs) (reduce k a x h) (length-map vs (reduce k a x) ∙ omega arith))

pub alternative : (vs : List V3) (h : V3) → Alternative vs h
alternative vs h = alternative_at (length vs) vs h refl

-- what holds wherever the conditions of a list hold is combined from them
pub combine_lemma : (vs : List V3) (h : V3) → ((x : V3) → IsAbove x vs → pos 0 ≤ℤ dot h x) → IsCombined vs h
combine_lemma vs h f = ⊎_elim (λ c. c) (λ s. absurd (negative_nonneg_clash (dot h s.0) s.2 (f s.0 s.1))) (alternative vs h)
