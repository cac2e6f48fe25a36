-- Of two opposite vectors exactly one is canonical.
use Rattle.std.proofs.Common.{◌≡◌, ◌≢◌, ◌⊎◌, inl, inr, ℕ, zero, suc, true, false, if◌then◌else◌, refl, sym, ap, subst, ◌∙◌, arith, ℤ, pos, negsuc, neg_ℤ, ◌<ℤ◌, ◌*ℤ◌}
use Rattle.std.specs.Prelude.{int_lt}
use Rattle.std.proofs.lemmas.Int.{ints}
use Rattle.staat_vec.specs.declared.vector.V3.{V3}
use Rattle.staat_vec.specs.Vectors.{IsWithin, origin, negative, cross, sign}
use Rattle.staat_vec.specs.Primitives.{IsPrimitive, IsPrimitiveOf, or_next, first_nonzero, IsCanon, canon}
use Rattle.staat_vec.proofs.Bounds.{IsWithin-negative}
use Rattle.staat_vec.proofs.Divisors.{neg-neg}
use Rattle.staat_vec.proofs.Primitives.{IsPrimitive-some, IsPrimitive-negative, parallel_primitives}
use Rattle.staat_vec.proofs.Signs.{times_sign}
use Rattle.staat_vec.proofs.VecRing.{same_vector}

pub negative-negative : (v : V3) → negative (negative v) ≡ v
negative-negative v = same_vector (negative (negative v)) v (neg-neg v.x) (neg-neg v.y) (neg-neg v.z)

or_next-neg : (a b : ℤ) → or_next (neg_ℤ a) (neg_ℤ b) ≡ neg_ℤ (or_next a b)
or_next-neg (pos zero) b = refl
or_next-neg a b = refl

pub first_nonzero-negative : (v : V3) → first_nonzero (negative v) ≡ neg_ℤ (first_nonzero v)
first_nonzero-negative v = ap (λ b. or_next (neg_ℤ v.x) b) (or_next-neg v.y v.z) ∙ or_next-neg v.x (or_next v.y v.z)

or_next-zero : (a b : ℤ) → or_next a b ≡ pos 0 → (a ≡ pos 0) × (b ≡ pos 0)
or_next-zero (pos zero) b e = (refl, e)
or_next-zero a b e = cc

-- only the origin has no component other than 0
pub first_nonzero-zero : (v : V3) → first_nonzero v ≡ pos 0 → v ≡ origin
first_nonzero-zero v e =
    let (x, rest) = or_next-zero v.x (or_next v.y v.z) e in
    let (y, z) = or_next-zero v.y v.z rest in
    same_vector v origin x y z

or_next-sign : (a b c d : ℤ) → sign a ≡ sign c → sign b ≡ sign d → sign (or_next a b) ≡ sign (or_next c d)
or_next-sign (pos zero) b (pos zero) d e f = f
or_next-sign (pos (suc m)) b (pos (suc n)) d e f = refl
or_next-sign (negsuc m) b (negsuc n) d e f = refl
or_next-sign (negsuc m) b (pos zero) d e f = cc
or_next-sign a b c d e f = cc

-- the first component that is not 0 has the same sign in a vector and in the primitive one on its ray
pub first_nonzero-sign : (v p : V3) → IsPrimitiveOf v p → sign (first_nonzero v) ≡ sign (first_nonzero p)
first_nonzero-sign v p of =
    let same : (a b : ℤ) → a ≡ pos of.factor *ℤ b → sign a ≡ sign b = λ a b e. ap sign e ∙ times_sign of.factor b of.positive in
    or_next-sign v.x (or_next v.y v.z) p.x (or_next p.y p.z) (same v.x p.x (ap (λ (u : V3). u.x) of.multiple))
    (or_next-sign v.y v.z p.y p.z (same v.y p.y (ap (λ (u : V3). u.y) of.multiple)) (same v.z p.z (ap (λ (u : V3). u.z) of.multiple)))

-- ---- the choice, by the sign of the first component that is not 0

by_sign : (a : ℤ) → (a ≡ pos 0) ⊎ (pos 0 <ℤ a) ⊎ (pos 0 <ℤ neg_ℤ a)
by_sign (pos zero) = inl refl
by_sign (pos (suc n)) = inr (inl (omega (arith, ints)))
by_sign (negsuc n) = inr (inr (omega (arith, ints)))

positive_test : (a : ℤ) → pos 0 <ℤ a → int_lt (pos 0) a ≡ true
positive_test a h = grind (arith, ints)

negative_test : (a : ℤ) → pos 0 <ℤ neg_ℤ a → int_lt (pos 0) a ≡ false
negative_test a h = grind (arith, ints)

pub canon-same : (v : V3) → IsCanon v → canon v ≡ v
unfolding canon
canon-same v h = ap (λ b. if b then v else negative v) (positive_test (first_nonzero v) h)

pub canon-opposite : (v : V3) → IsCanon (negative v) → canon v ≡ negative v
unfolding canon
canon-opposite v h = ap (λ b. if b then v else negative v) (negative_test (first_nonzero v) (subst (λ a. pos 0 <ℤ a) (first_nonzero-negative v) h))

-- the origin is its own negative
canon-origin : canon origin ≡ origin
unfolding canon
canon-origin = refl

-- it is the vector or its negative
pub canon-either : (v : V3) → (canon v ≡ v) ⊎ (canon v ≡ negative v)
canon-either v = by (by_sign (first_nonzero v))
  where
    by : (first_nonzero v ≡ pos 0) ⊎ (pos 0 <ℤ first_nonzero v) ⊎ (pos 0 <ℤ neg_ℤ (first_nonzero v)) → (canon v ≡ v) ⊎ (canon v ≡ negative v)
    by (inl none) = let e = first_nonzero-zero v none in inl (ap canon e ∙ canon-origin ∙ sym e)
    by (inr (inl h)) = inl (canon-same v h)
    by (inr (inr h)) = inr (canon-opposite v (subst (λ a. pos 0 <ℤ a) (sym (first_nonzero-negative v)) h))

-- what holds of the vector and of its negative holds of the canonical one
pub canon-has : (P : V3 → Type 0) (v : V3) → P v → P (negative v) → P (canon v)
canon-has P v h k = elim (canon-either v) [ inl e ↦ subst P (sym e) h | inr e ↦ subst P (sym e) k ]

-- one of two opposite vectors is canonical, unless both are the origin
pub IsCanon-canon : (v : V3) → v ≢ origin → IsCanon (canon v)
IsCanon-canon v some = by (by_sign (first_nonzero v))
  where
    by : (first_nonzero v ≡ pos 0) ⊎ (pos 0 <ℤ first_nonzero v) ⊎ (pos 0 <ℤ neg_ℤ (first_nonzero v)) → IsCanon (canon v)
    by (inl none) = absurd (some (first_nonzero-zero v none))
    by (inr (inl h)) = subst (λ w. IsCanon w) (sym (canon-same v h)) h
    by (inr (inr h)) =
        let opposite : IsCanon (negative v) = subst (λ a. pos 0 <ℤ a) (sym (first_nonzero-negative v)) h in
        subst (λ w. IsCanon w) (sym (canon-opposite v opposite)) opposite

-- only one is canonical
pub canon-only : (v c : V3) → IsCanon c → (c ≡ v) ⊎ (c ≡ negative v) → c ≡ canon v
canon-only v c h (inl e) = e ∙ sym (canon-same v (subst (λ w. IsCanon w) e h))
canon-only v c h (inr e) = e ∙ sym (canon-opposite v (subst (λ w. IsCanon w) e h))

pub canon-negative : (v : V3) → v ≢ origin → canon (negative v) ≡ canon v
canon-negative v some =
    canon-only v (canon (negative v)) (IsCanon-canon (negative v) (λ e. some (sym (negative-negative v) ∙ ap negative e)))
    (elim (canon-either (negative v)) [ inl e ↦ inr e | inr e ↦ inl (e ∙ negative-negative v) ])

pub IsPrimitive-canon : (v : V3) → IsPrimitive v → IsPrimitive (canon v)
IsPrimitive-canon v prim = canon-has (λ w. IsPrimitive w) v prim (IsPrimitive-negative v prim)

pub IsWithin-canon : (bound : ℕ) (v : V3) → IsWithin bound v → IsWithin bound (canon v)
IsWithin-canon bound v h = canon-has (IsWithin bound) v h (IsWithin-negative bound v h)

-- primitive vectors on one line have one canonical vector
pub same_canon : (n m : V3) → IsPrimitive n → IsPrimitive m → cross n m ≡ origin → canon n ≡ canon m
same_canon n m pn pm e = elim (parallel_primitives n m pn pm e) [
  | inl same ↦ ap canon same
  | inr opposite ↦ ap canon opposite ∙ canon-negative m (IsPrimitive-some m pm)
]
