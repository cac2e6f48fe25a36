-- Sums of each number times its vector, and squares of vectors.
use Rattle.std.proofs.Common.{◌≡◌, ℕ, suc, ◌+◌, ◌*◌, ◌≤◌, ap, refl, ◌∙◌, arith, ℤ, pos, ◌+ℤ◌, ◌*ℤ◌, ◌≤ℤ◌, ◌<ℤ◌, ◌⊎◌, inl, inr, List, [], ◌∷◌, length, map, All, sum}
use Rattle.std.proofs.lemmas.List.Elements.{All-cons, All-head, All-tail}
use Rattle.staat_vec.specs.declared.vector.V3.{V3}
use Rattle.staat_vec.specs.Vectors.{dot, plus, times, origin, vector_cmp}
use Rattle.staat_vec.proofs.Ring.{at, num, ◌⊕◌, ◌⊗◌, ring}
use Rattle.staat_vec.proofs.VecRing.{dotE, plusE, timesE, originE, values, v0, v1, v2, scale, ring3}
use Rattle.staat_vec.proofs.Order.{nonneg_is, nonneg_mul, nonneg_pos, nonneg_sum}
use Rattle.staat_vec.proofs.ListLaws.{sum-cons}
use Rattle.staat_vec.proofs.VectorLaws.{some_square, times_sum_plus}
use Rattle.staat_vec.proofs.VectorOrder.{vector_exact, vector_total}
use Rattle.staat_model.proofs.Decisions.{equal_or}
use Rattle.staat_model.specs.Meeting.{mix}
use Rattle.staat_model.specs.Cones.{IsAbove}

pub scale_origin : (k : ℤ) → origin ≡ scale k origin
scale_origin k = ring3 (k ∷ []) originE (timesE (at 0) originE) (tt, tt, tt)

pub mix_scale : (n : ℕ) (cs : List ℕ) (vs : List V3) → mix (map (λ c. n * c) cs) vs ≡ times n (mix cs vs)
mix_scale n [] vs = scale_origin (pos n)
mix_scale n (c ∷ cs) [] = scale_origin (pos n)
mix_scale n (c ∷ cs) (v ∷ vs) =
    ap (λ m. plus (times (n * c) v) m) (mix_scale n cs vs)
    ∙ ring3 (values (v ∷ mix cs vs ∷ []) (pos n ∷ pos c ∷ [])) (plusE (timesE (at 6 ⊗ at 7) v0) (timesE (at 6) v1)) (timesE (at 6) (plusE (timesE (at 7) v0) v1)) (tt, tt, tt)

pub dot_step : (k : ℕ) (v m x : V3) → dot (plus (times k v) m) x ≡ pos k *ℤ dot v x +ℤ dot m x
dot_step k v m x = ring (values (v ∷ m ∷ x ∷ []) (pos k ∷ [])) (dotE (plusE (timesE (at 9) v0) v1) v2) (at 9 ⊗ dotE v0 v2 ⊕ dotE v1 v2) tt

pub times_dot : (t : ℕ) (d n : V3) → dot (times t d) n ≡ pos t *ℤ dot d n
times_dot t d n = ring (values (d ∷ n ∷ []) (pos t ∷ [])) (dotE (timesE (at 6) v0) v1) (at 6 ⊗ dotE v0 v1) tt

pub dot_origin : (x : V3) → dot origin x ≡ pos 0
dot_origin x = ring (values (x ∷ []) []) (dotE originE v0) (num (pos 0)) tt

-- what is above all members is above each sum of them
pub mix_above : (x : V3) (cs : List ℕ) (vs : List V3) → IsAbove x vs → pos 0 ≤ℤ dot (mix cs vs) x
mix_above x [] vs h = nonneg_is (dot origin x) (pos 0) (dot_origin x) (nonneg_pos 0)
mix_above x (c ∷ cs) [] h = nonneg_is (dot origin x) (pos 0) (dot_origin x) (nonneg_pos 0)
mix_above x (c ∷ cs) (v ∷ vs) h =
    nonneg_sum (dot (mix (c ∷ cs) (v ∷ vs)) x) (pos c *ℤ dot v x) (dot (mix cs vs) x) (dot_step c v (mix cs vs) x)
    (nonneg_mul (pos c) (dot v x) (nonneg_pos c) (All-head (λ v. pos 0 ≤ℤ dot v x) v vs h))
    (mix_above x cs vs (All-tail (λ v. pos 0 ≤ℤ dot v x) v vs h))

-- a vector is zero, or its square is positive
pub square_vector : (h : V3) → (h ≡ origin) ⊎ (pos 0 <ℤ dot h h)
square_vector h = elim (equal_or vector_cmp vector_total vector_exact h origin) [ inl e ↦ inl e | inr some ↦ inr (some_square h some) ]

pub origin_plus : (a : V3) → a ≡ plus origin a
origin_plus a = ring3 (values (a ∷ []) []) v0 (plusE originE v0) (tt, tt, tt)

-- a list whose numbers are the sums of those of two lists
pub record Added (xs ys : List ℕ) : Type 0 where
  pub zs : List ℕ
  pub one_each : length zs ≡ length xs
  pub total : sum zs ≡ sum xs + sum ys
  pub positive : All (λ w. 1 ≤ w) xs → All (λ w. 1 ≤ w) zs
  pub mixed : (vs : List V3) → mix zs vs ≡ plus (mix xs vs) (mix ys vs)

pub added : (xs ys : List ℕ) → length xs ≡ length ys → Added xs ys
added [] [] e = record { zs = []; one_each = refl; total = omega arith; positive = λ h. h; mixed = λ vs. origin_plus origin }
added (x ∷ xs) (y ∷ ys) e =
    let rest = added xs ys (omega arith) in record {
      zs = (x + y) ∷ rest.zs;
      one_each = ap suc rest.one_each;
      total = omega (arith, sum-cons (x + y) rest.zs, sum-cons x xs, sum-cons y ys, rest.total);
      positive = λ h. let one = All-head (λ w. 1 ≤ w) x xs h in All-cons (λ w. 1 ≤ w) (x + y) rest.zs (omega (arith, one)) (rest.positive (All-tail (λ w. 1 ≤ w) x xs h));
      mixed = more rest;
    }
  where
    more : (rest : Added xs ys) (vs : List V3) → mix ((x + y) ∷ rest.zs) vs ≡ plus (mix (x ∷ xs) vs) (mix (y ∷ ys) vs)
    more rest [] = origin_plus origin
    more rest (v ∷ vs) = ap (plus (times (x + y) v)) (rest.mixed vs) ∙ times_sum_plus x y v (mix xs vs) (mix ys vs)
added xs ys e = absurd (omega arith)
