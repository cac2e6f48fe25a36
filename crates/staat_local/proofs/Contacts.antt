-- Points that touch, and points that a vector keeps strictly apart, which do not collide soon.
use Rattle.std.proofs.Common.{◌≡◌, ℕ, zero, suc, ◌+◌, ◌*◌, ◌≤◌, sym, ap, ap₂, ◌∙◌, subst, arith, ℤ, pos, ◌+ℤ◌, ◌*ℤ◌, negsuc, ◌≤ℤ◌, unsigned_abs, List, [], ◌∷◌, length, map, All, Contains, sum}
use Rattle.std.proofs.lemmas.Int.{ints}
use Rattle.std.proofs.lemmas.List.{length-map}
use Rattle.std.proofs.lemmas.List.Elements.{All-head, All-tail}
use Rattle.staat_vec.specs.declared.vector.V3.{V3}
use Rattle.staat_vec.specs.Vectors.{dot, negative, origin, plus, times}
use Rattle.staat_vec.proofs.Ring.{at, num, ◌⊕◌, ◌⊗◌, ring}
use Rattle.staat_vec.proofs.VecRing.{dotE, negativeE, originE, plusE, timesE, values, v0, v1, v2, ring3}
use Rattle.staat_model.specs.Facets.{IsDifference}
use Rattle.staat_model.specs.Cones.{IsCombined, differences}
use Rattle.staat_model.specs.Meeting.{Meets, mix}
use Rattle.staat_model.proofs.Mixes.{added, dot_step, mix_scale}
use Rattle.staat_model.proofs.PieceFacets.{differences_are}
use Rattle.staat_model.proofs.WeightLemmas.{some_sum}
use Rattle.staat_local.specs.Contacts.{Contact, MeetsWithin, Starts}
use Rattle.staat_local.proofs.Weights.{LeadsOver, leads_both, leads_mixed, leads_one, sum-scaled}
use Rattle.staat_vec.proofs.Integers.{sum_mul, pos_mul_le}
use Rattle.staat_vec.proofs.VectorLaws.{plus_origin}

-- ---- points that touch

module _ (p q : List V3) where
  abbrev vs : List V3
  vs = differences p q

  is_difference : (v : V3) → Contains vs v → IsDifference p q v
  is_difference v c = (differences_are p q).each v c

  gone : (k : ℕ) (w : V3) → plus (times k (negative w)) (times k w) ≡ origin
  gone k w = ring3 (values (w ∷ []) (pos k ∷ [])) (plusE (timesE (at 3) (negativeE v0)) (timesE (at 3) v0)) originE (tt, tt, tt)

  contact_from : (s : ℕ) → 1 ≤ s → LeadsOver p q s origin → Contact p q
  contact_from s one l = record {
    a = l.a;
    b = l.b;
    a_each = l.a_each;
    b_each = l.b_each;
    some = subst (λ n. 1 ≤ n) (sym l.a_sum) one;
    same_sum = l.a_sum ∙ sym l.b_sum;
    same_place = sym (plus_origin (mix l.a p)) ∙ l.leads;
  }

  -- where the negative of a difference is combined from the differences
  pub contact_combined : (w : V3) → Contains vs w → IsCombined vs (negative w) → Contact p q
  contact_combined w w_in c =
      let total = leads_both p q (sum c.numbers) c.k (mix c.numbers vs) (times c.k w) (leads_mixed p q vs c.numbers c.one_each is_difference) (leads_one p q c.k w (is_difference w w_in)) in
      let one = c.positive in
      contact_from (sum c.numbers + c.k) (omega (arith, one))
      (subst (λ v. LeadsOver p q (sum c.numbers + c.k) v) (ap (λ m. plus m (times c.k w)) c.is ∙ gone c.k w) total)

-- ---- sums of points along a vector

join_low : (a b c d e f : ℤ) → e ≡ a +ℤ b → f ≡ c +ℤ d → a ≤ℤ c → b ≤ℤ d → e ≤ℤ f
join_low a b c d e f p q h g = omega (arith, ints)

pub mix_least : (x : V3) (m : ℤ) (ws : List ℕ) (vs : List V3) → length ws ≡ length vs → All (λ v. m ≤ℤ dot v x) vs → (pos (sum ws) *ℤ m) ≤ℤ dot (mix ws vs) x
mix_least x m [] vs e h = omega (arith, ints)
mix_least x m (w ∷ ws) [] e h = absurd (omega arith)
mix_least x m (w ∷ ws) (v ∷ vs) e h =
    join_low (pos w *ℤ m) (pos (sum ws) *ℤ m) (pos w *ℤ dot v x) (dot (mix ws vs) x) (pos (sum (w ∷ ws)) *ℤ m) (dot (mix (w ∷ ws) (v ∷ vs)) x)
    (sum_mul w ws m) (dot_step w v (mix ws vs) x) (pos_mul_le w m (dot v x) (All-head (λ v. m ≤ℤ dot v x) v vs h))
    (mix_least x m ws vs (omega arith) (All-tail (λ v. m ≤ℤ dot v x) v vs h))

pub mix_most : (x : V3) (m : ℤ) (ws : List ℕ) (vs : List V3) → length ws ≡ length vs → All (λ v. dot v x ≤ℤ m) vs → dot (mix ws vs) x ≤ℤ (pos (sum ws) *ℤ m)
mix_most x m [] vs e h = omega (arith, ints)
mix_most x m (w ∷ ws) [] e h = absurd (omega arith)
mix_most x m (w ∷ ws) (v ∷ vs) e h =
    join_low (pos w *ℤ dot v x) (dot (mix ws vs) x) (pos w *ℤ m) (pos (sum ws) *ℤ m) (dot (mix (w ∷ ws) (v ∷ vs)) x) (pos (sum (w ∷ ws)) *ℤ m)
    (dot_step w v (mix ws vs) x) (sum_mul w ws m) (pos_mul_le w (dot v x) m (All-head (λ v. dot v x ≤ℤ m) v vs h))
    (mix_most x m ws vs (omega arith) (All-tail (λ v. dot v x ≤ℤ m) v vs h))

-- all of p lies at m or less far along x, and all of q farther
pub record IsPastAt (p q : List V3) (x : V3) (m : ℤ) : Type 0 where
  pub first : All (λ v. dot v x ≤ℤ m) p
  pub second : All (λ v. (m +ℤ pos 1) ≤ℤ dot v x) q

one_past : (s : ℕ) (m a b : ℤ) → a ≤ℤ (pos s *ℤ m) → (pos s *ℤ (m +ℤ pos 1)) ≤ℤ b → (a +ℤ pos s) ≤ℤ b
one_past s m a b h g =
    let spread : pos s *ℤ (m +ℤ pos 1) ≡ (pos s *ℤ m) +ℤ pos s = ring (pos s ∷ m ∷ []) (at 0 ⊗ (at 1 ⊕ num (pos 1))) (at 0 ⊗ at 1 ⊕ at 0) tt in
    omega (arith, ints, spread)

-- then sums of their points are as far apart along x as the weights are great
pub gap : (p q : List V3) (x : V3) (m : ℤ) (a b : List ℕ) → IsPastAt p q x m → length a ≡ length p → length b ≡ length q → sum a ≡ sum b → (dot (mix a p) x +ℤ pos (sum a)) ≤ℤ dot (mix b q) x
gap p q x m a b past la lb same =
    one_past (sum a) m (dot (mix a p) x) (dot (mix b q) x) (mix_most x m a p la past.first)
    (subst (λ s. (pos s *ℤ (m +ℤ pos 1)) ≤ℤ dot (mix b q) x) (sym same) (mix_least x (m +ℤ pos 1) b q lb past.second))

pub past_no_contact : (p q : List V3) (x : V3) (m : ℤ) → IsPastAt p q x m → Contact p q → ⊥
past_no_contact p q x m past c =
    let far = gap p q x m c.a c.b past c.a_each c.b_each c.same_sum in
    let same = ap (λ v. dot v x) c.same_place in
    let some = c.some in omega (arith, ints, far, same, some)

-- ---- what is kept apart does not collide soon

moved_dot : (x m d : V3) (t : ℕ) → dot (plus m (times t d)) x ≡ dot m x +ℤ pos t *ℤ dot d x
moved_dot x m d t = ring (values (x ∷ m ∷ d ∷ []) (pos t ∷ [])) (dotE (plusE v1 (timesE (at 9) v2)) v0) (dotE v1 v0 ⊕ at 9 ⊗ dotE v2 v0) tt

too_late : (t s : ℕ) (r a b : ℤ) → 1 ≤ s → (unsigned_abs r + 1) * t ≤ s → (a +ℤ pos s) ≤ℤ b → b ≡ a +ℤ pos t *ℤ r → ⊥
too_late zero s r a b one soon far e = omega (arith, ints)
too_late (suc t) s (pos r) a b one soon far e = omega (arith, ints)
too_late (suc t) s (negsuc r) a b one soon far e = omega (arith, ints)

pub past_no_start : (p q : List V3) (x d : V3) (m : ℤ) → 1 ≤ length p → IsPastAt p q x m → Starts p q d → ⊥
past_no_start p q x d m some past starts =
    let r = dot d x in
    let met = starts (unsigned_abs r + 1) (omega arith) in
    let h = met.meeting in
    too_late met.t (sum h.a) r (dot (mix h.a p) x) (dot (mix h.b q) x)
    (some_sum h.a (subst (λ n. 1 ≤ n) (sym h.a_weights.one_each) some) h.a_weights.positive) met.soon
    (gap p q x m h.a h.b past h.a_weights.one_each h.b_weights.one_each h.same_sum)
    (sym (ap (λ v. dot v x) h.same_place) ∙ moved_dot x (mix h.a p) d met.t)

-- ---- what touches and is met is met soon

-- many times the weights of a common point, and those of the meeting once
pub soon_weights : (p q : List V3) (d : V3) (k : ℕ) → Contact p q → Meets p q d → MeetsWithin p q d k
soon_weights p q d k c met =
    let h = met.meeting in
    let n = k * met.t in
    let a = added h.a (map (λ w. n * w) c.a) (h.a_weights.one_each ∙ sym (length-map c.a (λ w. n * w) ∙ c.a_each)) in
    let b = added h.b (map (λ w. n * w) c.b) (h.b_weights.one_each ∙ sym (length-map c.b (λ w. n * w) ∙ c.b_each)) in
    let sum_a = a.total ∙ ap (λ s. sum h.a + s) (sum-scaled n c.a) in
    let sum_b = b.total ∙ ap (λ s. sum h.b + s) (sum-scaled n c.b) in
    record {
      t = met.t;
      meeting = record {
        a = a.zs;
        b = b.zs;
        a_weights = record { one_each = a.one_each ∙ h.a_weights.one_each; positive = a.positive h.a_weights.positive };
        b_weights = record { one_each = b.one_each ∙ h.b_weights.one_each; positive = b.positive h.b_weights.positive };
        same_sum = sum_a ∙ ap₂ (λ s r. s + n * r) h.same_sum c.same_sum ∙ sym sum_b;
        same_place = ap (λ m. plus m (times met.t d)) (a.mixed p ∙ ap (plus (mix h.a p)) (mix_scale n c.a p))
            ∙ swap (mix h.a p) (times n (mix c.a p)) (times met.t d)
            ∙ ap₂ (λ u v. plus u (times n v)) h.same_place c.same_place
            ∙ sym (b.mixed q ∙ ap (plus (mix h.b q)) (mix_scale n c.b q));
      };
      soon = subst (λ s. n ≤ s) (sym sum_a) (great n (sum c.a) (sum h.a) c.some);
    }
  where
    swap : (a b c : V3) → plus (plus a b) c ≡ plus (plus a c) b
    swap a b c = ring3 (values (a ∷ b ∷ c ∷ []) []) (plusE (plusE v0 v1) v2) (plusE (plusE v0 v2) v1) (tt, tt, tt)

    great : (n s r : ℕ) → 1 ≤ s → n ≤ r + n * s
    great n zero r one = absurd (omega arith)
    great n (suc s) r one = omega arith

pub meets_of_start : (p q : List V3) (d : V3) → Starts p q d → Meets p q d
meets_of_start p q d starts = let first = starts 1 (omega arith) in record { t = first.t; meeting = first.meeting }
