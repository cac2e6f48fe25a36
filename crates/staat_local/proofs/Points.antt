-- How far points lie along a vector, and the sum of vectors.
use Rattle.std.proofs.Common.{◌≡◌, ◌⊎◌, inl, inr, ℕ, zero, suc, ◌+◌, ◌*◌, ◌<◌, ◌≤◌, sym, ap, subst, ◌∙◌, arith, ℤ, pos, ◌≤ℤ◌, List, [], ◌∷◌, length, get_or, take, All, Any, below_more}
use Rattle.std.proofs.lemmas.List.Elements.{All-nil, All-cons, All-head, All-tail}
use Rattle.std.proofs.lemmas.List.{get_or_default}
use Rattle.std.specs.Prelude.{None, Option, Some, slice_get}
use Rattle.staat_vec.specs.declared.vector.V3.{V3}
use Rattle.staat_vec.specs.Vectors.{IsWithin, dot, origin, plus}
use Rattle.staat_vec.proofs.Bounds.{IsWithin-plus, IsWithin-wider}
use Rattle.staat_vec.proofs.Order.{nonneg_is, nonneg_pos, nonneg_sum, split_sum}
use Rattle.staat_vec.proofs.Ring.{num, ring}
use Rattle.staat_vec.proofs.VecRing.{dotE, originE, plusE, values, v0, ring3}
use Rattle.staat_local.specs.Contacts.{total}
use Rattle.staat_vec.proofs.Integers.{le_trans_ℤ, zero_from_bounds}
use Rattle.staat_vec.proofs.VectorLaws.{plus_assoc, dot_plus}

-- ---- the points that were passed

module _ (n : V3) (points : List V3) (i : ℕ) (lt : i < length points) where
  -- none of them lies so far or less far, and the next one does not
  pub none_more : (far : ℤ) → ((k : ℕ) (d : V3) → k < i → dot (get_or points k d) n ≤ℤ far → ⊥) → (dot (get_or points i origin) n ≤ℤ far → ⊥) → (k : ℕ) (d : V3) → k < i + 1 → dot (get_or points k d) n ≤ℤ far → ⊥
  none_more far before next k d = below_more (λ k. dot (get_or points k d) n ≤ℤ far → ⊥) i (λ k below. before k d below)
      (λ h. next (subst (λ v. dot v n ≤ℤ far) (get_or_default points i d origin lt) h)) k

  -- they lie no farther than the farthest, and so does the next one
  pub reach_more : (old here new : ℤ) → ((k : ℕ) (d : V3) → k < i → dot (get_or points k d) n ≤ℤ old) → here ≡ dot (get_or points i origin) n → old ≤ℤ new → here ≤ℤ new → (k : ℕ) (d : V3) → k < i + 1 → dot (get_or points k d) n ≤ℤ new
  reach_more old here new before is first second k d = below_more (λ k. dot (get_or points k d) n ≤ℤ new) i
      (λ k below. le_trans_ℤ (dot (get_or points k d) n) old new (before k d below) first)
      (subst (λ v. dot v n ≤ℤ new) (get_or_default points i origin d lt) (subst (λ z. z ≤ℤ new) is second)) k

  -- one of them lies so far
  pub at_more : (old here new : ℤ) → Any (λ p. dot p n ≡ old) points → here ≡ dot (get_or points i origin) n → (new ≡ old) ⊎ (new ≡ here) → Any (λ p. dot p n ≡ new) points
  at_more old here new old_at is (inl same) = subst (λ z. Any (λ p. dot p n ≡ z) points) (sym same) old_at
  at_more old here new old_at is (inr same) = (i, get_or points i origin, lt, get_or_default points i (get_or points i origin) origin lt, sym (same ∙ is))

-- ---- the sum of vectors

nothing_before : (v : V3) → plus v origin ≡ plus origin v
nothing_before v = ring3 (values (v ∷ []) []) (plusE v0 originE) (plusE originE v0) (tt, tt, tt)

total_next : (vs : List V3) (m : ℕ) (v : V3) → slice_get vs m ≡ Some v → total (take (suc m) vs) ≡ plus (total (take m vs)) v
total_next [] m v e = absurd (none e)
  where
    none : ◌≡◌ {A = Option V3} None (Some v) → ⊥
    none e = cc
total_next (u ∷ vs) zero v e = ap (λ w. plus w origin) (same e) ∙ nothing_before v
  where
    same : Some u ≡ Some v → u ≡ v
    same e = cc
total_next (u ∷ vs) (suc m) v e = ap (plus u) (total_next vs m v e) ∙ plus_assoc u (total (take m vs)) v

pub total_more : (vs : List V3) (m : ℕ) (v : V3) → slice_get vs m ≡ Some v → total (take (m + 1) vs) ≡ plus (total (take m vs)) v
total_more vs m v e = let next : m + 1 ≡ suc m = omega arith in ap (λ k. total (take k vs)) next ∙ total_next vs m v e

pub sum_within : (m size : ℕ) (s v t : V3) → t ≡ plus s v → IsWithin (m * size) s → IsWithin size v → IsWithin ((m + 1) * size) t
sum_within m size s v t e h g = subst (IsWithin ((m + 1) * size)) (sym e) (IsWithin-wider (m * size + size) ((m + 1) * size) (plus s v) (omega arith) (IsWithin-plus (m * size) size s v h g))

total_up : (v : V3) (fs : List V3) → All (λ f. pos 0 ≤ℤ dot v f) fs → pos 0 ≤ℤ dot v (total fs)
total_up v [] h = nonneg_is (dot v origin) (pos 0) (ring (values (v ∷ []) []) (dotE v0 originE) (num (pos 0)) tt) (nonneg_pos 0)
total_up v (f ∷ fs) h = nonneg_sum (dot v (total (f ∷ fs))) (dot v f) (dot v (total fs)) (dot_plus v f (total fs)) (All-head (λ f. pos 0 ≤ℤ dot v f) f fs h) (total_up v fs (All-tail (λ f. pos 0 ≤ℤ dot v f) f fs h))

-- what lies on the positive side of vectors, and of their sum does not, lies across all of them
pub all_level : (v : V3) (fs : List V3) → All (λ f. pos 0 ≤ℤ dot v f) fs → dot v (total fs) ≤ℤ pos 0 → All (λ f. dot v f ≡ pos 0) fs
all_level v [] h low = All-nil (λ f. dot v f ≡ pos 0)
all_level v (f ∷ fs) h low =
    let first = All-head (λ f. pos 0 ≤ℤ dot v f) f fs h in
    let rest = All-tail (λ f. pos 0 ≤ℤ dot v f) f fs h in
    let both = split_sum (dot v f) (dot v (total fs)) (dot v (total (f ∷ fs))) (dot_plus v f (total fs)) low first (total_up v fs rest) in
    All-cons (λ f. dot v f ≡ pos 0) f fs (zero_from_bounds (dot v f) first both.0) (all_level v fs rest both.1)
