-- The members of a list that spans space add up, with numbers of at least 1, to a multiple of d, or a facet stands in the way of d, and not both.
use Rattle.std.proofs.Common.{◌≡◌, ℕ, ◌*◌, ◌≤◌, ◌≢◌, sym, ap, subst, ◌∙◌, arith, ℤ, pos, ◌-ℤ◌, ◌*ℤ◌, ◌≤ℤ◌, ◌<ℤ◌, unsigned_abs, ◌⊎◌, inl, inr, List, [], ◌∷◌, length, map, replicate, All, le_trans}
use Rattle.std.specs.Prelude.{sum_by}
use Rattle.std.proofs.lemmas.Int.{ints, by_lt_z}
use Rattle.std.proofs.lemmas.List.{length-map, length-replicate}
use Rattle.std.proofs.lemmas.List.Elements.{All-nil, All-cons, All-head, All-tail, All-map, All-replicate}
use Rattle.staat_vec.specs.declared.vector.V3.{V3}
use Rattle.staat_vec.specs.Vectors.{dot, cross, plus, times, negative, origin}
use Rattle.staat_vec.specs.Primitives.{primitive}
use Rattle.staat_vec.proofs.Ring.{at, ◌⊖◌, ◌⊗◌, ring}
use Rattle.staat_vec.proofs.VecRing.{dotE, plusE, timesE, negativeE, values, v0, v1, v2, ring3, dot_comm, dot_cross_left, dot_cross_right}
use Rattle.staat_vec.proofs.Order.{bounded, split_sum, tight_factor, not_positive_mul, cancel_not_positive, nonneg_mul, nonneg_pos}
use Rattle.staat_model.specs.Meeting.{mix}
use Rattle.staat_model.specs.Cones.{IsAbove, IsSpanning, IsCombined, IsReached, IsStopped, ExactlyOne}
use Rattle.staat_model.proofs.Mixes.{added, dot_step, mix_above, mix_scale, times_dot}
use Rattle.staat_model.proofs.Alternative.{IsSeparated, alternative}
use Rattle.staat_model.proofs.Members.{member_le}
use Rattle.staat_model.proofs.Edge.{IsEdge, edge_below}
use Rattle.staat_vec.proofs.Primitives.{IsPrimitive-some, primitive-is}
use Rattle.staat_model.proofs.CornerLemmas.{above_primitive, across_primitive, dot_multiple}

abbrev total : List V3 → V3
total vs = mix (replicate (length vs) 1) vs

-- n times d, less s
abbrev moved : ℕ → V3 → V3 → V3
moved n d s = plus (times n d) (negative s)

module _ (vs : List V3) (d : V3) where
  stopped_from : (g h : V3) → IsEdge vs g h → dot d (cross g h) ≤ℤ pos 0 → IsStopped vs d
  stopped_from g h (in_g, in_h, some, up) low =
      let n = primitive (cross g h) in
      let p = primitive-is (cross g h) some in
      record {
        n = n;
        facet = record {
          primitive = p.primitive;
          above = above_primitive vs (cross g h) n p up;
          across = record {
            u = g;
            v = h;
            u_in = in_g;
            v_in = in_h;
            independent = some;
            u_on = across_primitive g (cross g h) some (dot_cross_left g h);
            v_on = across_primitive h (cross g h) some (dot_cross_right g h);
          };
        };
        away = subst (λ z. z ≤ℤ pos 0) (dot_comm d n) (cancel_not_positive p.factor (dot d n) p.positive (subst (λ z. z ≤ℤ pos 0) (dot_multiple d (cross g h) n p.factor p.multiple) low));
      }

  reached_from : (n : ℕ) → IsCombined vs (moved n d (total vs)) → IsReached vs d
  reached_from n c =
      let one = c.positive in
      let ones : List ℕ = replicate (length vs) 1 in
      let long : length (map (λ m. c.k * m) ones) ≡ length vs = length-map ones (λ m. c.k * m) ∙ length-replicate (length vs) 1 in
      let sums = added (map (λ m. c.k * m) ones) c.numbers (long ∙ sym c.one_each) in record {
        weights = sums.zs;
        are_weights = record {
          one_each = sums.one_each ∙ long;
          positive = sums.positive (All-map (λ m. 1 ≤ m) (λ m. c.k * m) ones (All-replicate (λ m. 1 ≤ c.k * m) (length vs) 1 (omega arith)));
        };
        t = c.k * n;
        is = sums.mixed vs ∙ (λ i. plus (mix_scale c.k ones vs i) (c.is i))
            ∙ ring3 (values (d ∷ total vs ∷ []) (pos c.k ∷ pos n ∷ [])) (plusE (timesE (at 6) v1) (timesE (at 6) (plusE (timesE (at 7) v0) (negativeE v1)))) (timesE (at 6 ⊗ at 7) v0) (tt, tt, tt);
      }

  not_below : (p q r : ℤ) → r ≡ p -ℤ q → q ≤ℤ p → r <ℤ pos 0 → ⊥
  not_below p q r e h g = omega (arith, ints)

  -- as many times d lies at least as far as the sum of all members, wherever d lies ahead
  abbrev far : ℕ
  far = sum_by (λ g. sum_by (λ h. unsigned_abs (dot (total vs) (cross g h))) vs) vs

  stopped_or : IsSpanning vs → IsSeparated vs (moved far d (total vs)) → IsStopped vs d
  stopped_or spans (x, up, low) =
      let (g, h, edge, side) = edge_below vs x (moved far d (total vs)) spans up low in
      let f = cross g h in
      let size : V3 → V3 → ℕ = λ g h. unsigned_abs (dot (total vs) (cross g h)) in
      let small : size g h ≤ far = le_trans (member_le (size g) vs h edge.1) (member_le (λ g. sum_by (size g) vs) vs g edge.0) in
      by_lt_z {P = IsStopped vs d} (pos 0) (dot d f)
      (λ ahead. absurd (not_below (pos far *ℤ dot d f) (dot (total vs) f) (dot (moved far d (total vs)) f) (ring (values (d ∷ total vs ∷ f ∷ []) (pos far ∷ [])) (dotE (plusE (timesE (at 9) v0) (negativeE v1)) v2) (at 9 ⊗ dotE v0 v2 ⊖ dotE v1 v2) tt)
      (bounded (dot (total vs) f) (dot d f) far small ahead) side))
      (stopped_from g h edge)

  farkas_one : IsSpanning vs → IsReached vs d ⊎ IsStopped vs d
  farkas_one spans = elim (alternative vs (moved far d (total vs))) [ inl c ↦ inl (reached_from far c) | inr s ↦ inr (stopped_or spans s) ]

-- a sum of positive multiples that is not above n: all members are across n
pub all_across : (n : V3) (ms : List ℕ) (vs : List V3) → length ms ≡ length vs → All (λ m. 1 ≤ m) ms → IsAbove n vs → dot (mix ms vs) n ≤ℤ pos 0 → All (λ v. dot v n ≡ pos 0) vs
all_across n ms [] l one up low = All-nil (λ v. dot v n ≡ pos 0)
all_across n [] (v ∷ vs) l one up low = absurd (omega arith)
all_across n (m ∷ ms) (v ∷ vs) l one up low =
    let first = All-head (λ v. pos 0 ≤ℤ dot v n) v vs up in
    let rest = All-tail (λ v. pos 0 ≤ℤ dot v n) v vs up in
    let parts = split_sum (pos m *ℤ dot v n) (dot (mix ms vs) n) (dot (mix (m ∷ ms) (v ∷ vs)) n) (dot_step m v (mix ms vs) n) low (nonneg_mul (pos m) (dot v n) (nonneg_pos m) first) (mix_above n ms vs rest) in
    All-cons (λ v. dot v n ≡ pos 0) v vs (tight_factor m (dot v n) (All-head (λ m. 1 ≤ m) m ms one) first parts.0)
    (all_across n ms vs (omega arith) (All-tail (λ m. 1 ≤ m) m ms one) rest parts.1)

-- what is above all members of a list that spans space, and not zero, lies ahead in each direction that is reached
pub reached_is_ahead : (vs : List V3) (d n : V3) → IsSpanning vs → n ≢ origin → IsAbove n vs → IsReached vs d → dot n d ≤ℤ pos 0 → ⊥
reached_is_ahead vs d n spans some up r low =
    some (spans n (all_across n r.weights vs r.are_weights.one_each r.are_weights.positive up (subst (λ z. z ≤ℤ pos 0) (sym (ap (λ v. dot v n) r.is ∙ times_dot r.t d n ∙ ap (λ z. pos r.t *ℤ z) (dot_comm d n))) (not_positive_mul r.t (dot n d) low))))

pub farkas_lemma : (vs : List V3) (d : V3) → IsSpanning vs → ExactlyOne (IsReached vs d) (IsStopped vs d)
farkas_lemma vs d spans = (farkas_one vs d spans, λ r s. reached_is_ahead vs d s.n spans (IsPrimitive-some s.n s.facet.primitive) s.facet.above r s.away)
