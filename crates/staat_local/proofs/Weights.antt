-- Weights of at least 0, and the vectors that lead between the sums of points that they give.
use Rattle.std.proofs.Common.{◌≡◌, ℕ, zero, suc, ◌+◌, ◌*◌, refl, sym, ap, ap₂, ◌∙◌, subst, arith, pos, List, [], ◌∷◌, length, map, Contains, sum}
use Rattle.staat_vec.specs.declared.vector.V3.{V3}
use Rattle.staat_vec.specs.Vectors.{minus, origin, plus, times}
use Rattle.staat_vec.proofs.Ring.{at, num}
use Rattle.staat_vec.proofs.VecRing.{minusE, originE, plusE, timesE, values, v0, v1, v2, v3, ring3}
use Rattle.staat_model.specs.Meeting.{mix}
use Rattle.staat_model.specs.Facets.{IsDifference}
use Rattle.staat_model.proofs.Mixes.{added}
use Rattle.staat_vec.proofs.ListLaws.{sum-cons, Contains-there}
use Rattle.staat_vec.proofs.Unique.{Contains-front}

pub sum-scaled : (n : ℕ) (cs : List ℕ) → sum (map (λ c. n * c) cs) ≡ n * sum cs
sum-scaled n [] = omega arith
sum-scaled n (c ∷ cs) = sum-cons (n * c) (map (λ c. n * c) cs) ∙ ap (λ s. n * c + s) (sum-scaled n cs) ∙ spread n c (sum cs) ∙ ap (λ s. n * s) (sym (sum-cons c cs))
  where
    spread : (n c s : ℕ) → n * c + n * s ≡ n * (c + s)
    spread n c s = omega arith

-- ---- weights of one point alone

none_of : (vs : List V3) → (ws : List ℕ) × (length ws ≡ length vs) × (sum ws ≡ 0) × (mix ws vs ≡ origin)
none_of [] = ([], refl, omega arith, refl)
none_of (v ∷ vs) =
    let (ws, each, none, is) = none_of vs in
    (0 ∷ ws, ap suc each, omega (arith, sum-cons 0 ws, none), ap (plus (times 0 v)) is ∙ ring3 (values (v ∷ []) []) (plusE (timesE (num (pos 0)) v0) originE) originE (tt, tt, tt))

one_of : (n : ℕ) (vs : List V3) (v : V3) → Contains vs v → (ws : List ℕ) × (length ws ≡ length vs) × (sum ws ≡ n) × (mix ws vs ≡ times n v)
one_of n [] v (k, lt, e) = absurd (omega arith)
one_of n (u ∷ vs) v (zero, lt, e) =
    let (ws, each, none, is) = none_of vs in
    (n ∷ ws, ap suc each, omega (arith, sum-cons n ws, none), ap (plus (times n u)) is ∙ ring3 (values (u ∷ []) (pos n ∷ [])) (plusE (timesE (at 3) v0) originE) (timesE (at 3) v0) (tt, tt, tt) ∙ ap (times n) e)
one_of n (u ∷ vs) v (suc k, lt, e) =
    let (ws, each, all, is) = one_of n vs v (k, omega arith, e) in
    (0 ∷ ws, ap suc each, omega (arith, sum-cons 0 ws, all), ap (plus (times 0 u)) is ∙ ring3 (values (u ∷ v ∷ []) (pos n ∷ [])) (plusE (timesE (num (pos 0)) v0) (timesE (at 6) v1)) (timesE (at 6) v1) (tt, tt, tt))

-- ---- what leads from sums of points of p to those of q

-- v leads from a sum of points of p to one of points of q, with weights of at least 0 whose sum is s in both
pub record LeadsOver (p q : List V3) (s : ℕ) (v : V3) : Type 0 where
  pub a : List ℕ
  pub b : List ℕ
  pub a_each : length a ≡ length p
  pub b_each : length b ≡ length q
  pub a_sum : sum a ≡ s
  pub b_sum : sum b ≡ s
  pub leads : plus (mix a p) v ≡ mix b q

pub leads_nowhere : (p q : List V3) → LeadsOver p q 0 origin
leads_nowhere p q =
    let (a, a_each, a_sum, a_is) = none_of p in
    let (b, b_each, b_sum, b_is) = none_of q in
    record { a = a; b = b; a_each = a_each; b_each = b_each; a_sum = a_sum; b_sum = b_sum; leads = ap (λ m. plus m origin) a_is ∙ sym b_is }

there_and_on : (a p b : V3) (n : ℕ) → plus (times n a) (times n (minus b a)) ≡ times n b
there_and_on a p b n = ring3 (values (a ∷ b ∷ []) (pos n ∷ [])) (plusE (timesE (at 6) v0) (timesE (at 6) (minusE v1 v0))) (timesE (at 6) v1) (tt, tt, tt)

pub leads_one : (p q : List V3) (n : ℕ) (v : V3) → IsDifference p q v → LeadsOver p q n (times n v)
leads_one p q n v d =
    let (a, a_each, a_sum, a_is) = one_of n p d.a d.a_in in
    let (b, b_each, b_sum, b_is) = one_of n q d.b d.b_in in
    record {
      a = a;
      b = b;
      a_each = a_each;
      b_each = b_each;
      a_sum = a_sum;
      b_sum = b_sum;
      leads = (λ i. plus (a_is i) (times n (d.is i))) ∙ there_and_on d.a d.a d.b n ∙ sym b_is;
    }

both_ways : (a b u v : V3) → plus (plus a b) (plus u v) ≡ plus (plus a u) (plus b v)
both_ways a b u v = ring3 (values (a ∷ b ∷ u ∷ v ∷ []) []) (plusE (plusE v0 v1) (plusE v2 v3)) (plusE (plusE v0 v2) (plusE v1 v3)) (tt, tt, tt)

pub leads_both : (p q : List V3) (s t : ℕ) (u v : V3) → LeadsOver p q s u → LeadsOver p q t v → LeadsOver p q (s + t) (plus u v)
leads_both p q s t u v x y =
    let a = added x.a y.a (x.a_each ∙ sym y.a_each) in
    let b = added x.b y.b (x.b_each ∙ sym y.b_each) in
    record {
      a = a.zs;
      b = b.zs;
      a_each = a.one_each ∙ x.a_each;
      b_each = b.one_each ∙ x.b_each;
      a_sum = a.total ∙ ap₂ (λ m n. m + n) x.a_sum y.a_sum;
      b_sum = b.total ∙ ap₂ (λ m n. m + n) x.b_sum y.b_sum;
      leads = ap (λ m. plus m (plus u v)) (a.mixed p) ∙ both_ways (mix x.a p) (mix y.a p) u v ∙ ap₂ plus x.leads y.leads ∙ sym (b.mixed q);
    }

pub leads_mixed : (p q vs : List V3) (ms : List ℕ) → length ms ≡ length vs → ((v : V3) → Contains vs v → IsDifference p q v) → LeadsOver p q (sum ms) (mix ms vs)
leads_mixed p q [] [] e are = leads_nowhere p q
leads_mixed p q (v ∷ vs) [] e are = absurd (omega arith)
leads_mixed p q [] (m ∷ ms) e are = absurd (omega arith)
leads_mixed p q (v ∷ vs) (m ∷ ms) e are =
    subst (λ s. LeadsOver p q s (plus (times m v) (mix ms vs))) (sym (sum-cons m ms))
    (leads_both p q m (sum ms) (times m v) (mix ms vs) (leads_one p q m v (are v (Contains-front v vs))) (leads_mixed p q vs ms (omega arith) (λ u c. are u (Contains-there v u vs c))))
