-- Few vectors whose facets leave none of all the vectors behind have the facets of all.
use Rattle.std.proofs.Common.{◌≡◌, ℕ, zero, suc, ◌≤◌, ◌≢◌, ◌↔◌, ◌⊎◌, inl, inr, sym, ap, subst, ◌∙◌, arith, ℤ, pos, ◌+ℤ◌, ◌*ℤ◌, ◌≤ℤ◌, ◌<ℤ◌, List, [], ◌∷◌, Contains}
use Rattle.std.proofs.lemmas.Int.{ints, by_lt_z}
use Rattle.std.proofs.lemmas.List.Elements.{All-head, All-tail, All-contains}
use Rattle.staat_vec.specs.declared.vector.V3.{V3}
use Rattle.staat_vec.specs.Vectors.{dot, cross, plus, times, origin}
use Rattle.staat_vec.specs.Primitives.{primitive}
use Rattle.staat_vec.proofs.Ring.{at}
use Rattle.staat_vec.proofs.VecRing.{crossE, plusE, timesE, originE, values, ring3, v0, v1, v2, same_vector, dot_comm, dot_cross_left, dot_cross_right}
use Rattle.staat_vec.proofs.Order.{nonneg_is, nonneg_mul, nonneg_pos, cancel_zero}
use Rattle.staat_vec.proofs.Primitives.{primitive-is}
use Rattle.staat_model.specs.Meeting.{mix}
use Rattle.staat_model.specs.Cones.{IsAbove, IsCombined, IsConeFacet, IsSpanning}
use Rattle.staat_model.proofs.Members.{All-from_members}
use Rattle.staat_model.proofs.Alternative.{combine_lemma}
use Rattle.staat_model.proofs.CornerLemmas.{above_primitive, dot_multiple}
use Rattle.staat_model.proofs.Edge.{edge_below}
use Rattle.staat_model.proofs.FacetLemmas.{swap_zero}
use Rattle.staat_model.proofs.Mixes.{dot_step, mix_above, square_vector}
use Rattle.staat_cone.specs.Few.{IsEnough}
use Rattle.staat_vec.proofs.Integers.{mul-zero_ℤ, negative_nonneg_clash}
use Rattle.staat_vec.proofs.VectorLaws.{times_zero_plus}
use Rattle.staat_vec.proofs.Unique.{Contains-front}
use Rattle.staat_vec.proofs.ListLaws.{Contains-there}

-- a facet of few, from two members whose cross product has all of few on its positive side
facet_of : (few : List V3) (g h : V3) → Contains few g → Contains few h → cross g h ≢ origin → IsAbove (cross g h) few → IsConeFacet few (primitive (cross g h))
facet_of few g h in_g in_h some up =
    let f = cross g h in
    let p = primitive-is f some in record {
      primitive = p.primitive;
      above = above_primitive few f (primitive f) p up;
      across = record {
        u = g;
        v = h;
        u_in = in_g;
        v_in = in_h;
        independent = some;
        u_on = cancel_zero p.factor (dot g (primitive f)) p.positive (sym (dot_multiple g f (primitive f) p.factor p.multiple) ∙ dot_cross_left g h);
        v_on = cancel_zero p.factor (dot h (primitive f)) p.positive (sym (dot_multiple h f (primitive f) p.factor p.multiple) ∙ dot_cross_right g h);
      };
    }

-- a vector that lies behind no facet of few is a sum of them
reached_by_few : (few : List V3) (v : V3) → IsSpanning few → ((n : V3) → IsConeFacet few n → pos 0 ≤ℤ dot v n) → IsCombined few v
reached_by_few few v spans none = combine_lemma few v (λ x up. by_lt_z {P = pos 0 ≤ℤ dot v x} (dot v x) (pos 0) (λ low. absurd (below x up low)) (λ high. high))
  where
    below : (x : V3) → IsAbove x few → dot v x <ℤ pos 0 → ⊥
    below x up low =
        let (g, h, (in_g, in_h, some, above), side) = edge_below few x v spans up low in
        let f = cross g h in
        let p = primitive-is f some in
        negative_nonneg_clash (dot v f) side (nonneg_is (dot v f) (pos p.factor *ℤ dot v (primitive f)) (dot_multiple v f (primitive f) p.factor p.multiple) (nonneg_mul (pos p.factor) (dot v (primitive f)) (nonneg_pos p.factor) (none (primitive f) (facet_of few g h in_g in_h some above))))

cross_none : (u : V3) → cross u origin ≡ origin
cross_none u = ring3 (values (u ∷ []) []) (crossE v0 originE) originE (tt, tt, tt)

cross_step : (u v m : V3) (k : ℕ) → cross u (plus (times k v) m) ≡ plus (times k (cross u v)) (cross u m)
cross_step u v m k = ring3 (values (u ∷ v ∷ m ∷ []) (pos k ∷ [])) (crossE v0 (plusE (timesE (at 9) v1) v2)) (plusE (timesE (at 9) (crossE v0 v1)) (crossE v0 v2)) (tt, tt, tt)

drop_none : (k : ℕ) (m : V3) → plus (times k origin) m ≡ m
drop_none k m = ring3 (values (m ∷ []) (pos k ∷ [])) (plusE (timesE (at 3) originE) v0) v0 (tt, tt, tt)

both_zero : (a b c : ℤ) → a ≡ b +ℤ c → a ≡ pos 0 → pos 0 ≤ℤ b → pos 0 ≤ℤ c → (b ≡ pos 0) × (c ≡ pos 0)
both_zero a b c e f h g = (omega (arith, ints), omega (arith, ints))

-- a member at right angles to n that is not parallel to u
Hit : V3 → V3 → List V3 → Type 0
Hit u n vs = (w : V3) × Contains vs w × (dot w n ≡ pos 0) × (cross u w ≢ origin)

-- a sum at right angles to n, and not parallel to u, has such a member
across_member : (u n : V3) (cs : List ℕ) (vs : List V3) → IsAbove n vs → dot (mix cs vs) n ≡ pos 0 → cross u (mix cs vs) ≢ origin → Hit u n vs
unfolding Hit
across_member u n [] vs up e some = absurd (some (cross_none u))
across_member u n (c ∷ cs) [] up e some = absurd (some (cross_none u))
across_member u n (c ∷ cs) (v ∷ vs) up e some =
    let head : pos 0 ≤ℤ dot v n = All-head (λ v. pos 0 ≤ℤ dot v n) v vs up in
    let rest : IsAbove n vs = All-tail (λ v. pos 0 ≤ℤ dot v n) v vs up in
    let m = mix cs vs in
    let both = both_zero (dot (mix (c ∷ cs) (v ∷ vs)) n) (pos c *ℤ dot v n) (dot m n) (dot_step c v m n) e (nonneg_mul (pos c) (dot v n) (nonneg_pos c) head) (mix_above n cs vs rest) in
    go c both.0 some (λ q. let r = across_member u n cs vs rest both.1 q in (r.0, Contains-there v r.0 vs r.1, r.2, r.3)) (square_vector (cross u v))
  where
    go : (c : ℕ) → pos c *ℤ dot v n ≡ pos 0 → cross u (plus (times c v) (mix cs vs)) ≢ origin → (cross u (mix cs vs) ≢ origin → Hit u n (v ∷ vs)) → (cross u v ≡ origin) ⊎ (pos 0 <ℤ dot (cross u v) (cross u v)) → Hit u n (v ∷ vs)
    go zero z some ih s = ih (λ q. some (ap (cross u) (times_zero_plus v (mix cs vs)) ∙ q))
    go (suc c) z some ih (inl q) = ih (λ r. some (cross_step u v (mix cs vs) (suc c) ∙ ap (λ w. plus (times (suc c) w) (cross u (mix cs vs))) q ∙ drop_none (suc c) (cross u (mix cs vs)) ∙ r))
    go (suc c) z some ih (inr p) = (v, Contains-front v vs, cancel_zero (suc c) (dot v n) (omega arith) z, λ q. let none : pos 0 <ℤ dot origin origin = subst (λ f. pos 0 <ℤ dot f f) q p in absurd none.lt)

cross_times : (k : ℕ) (u v : V3) → cross u (times k v) ≡ times k (cross u v)
cross_times k u v = ring3 (values (u ∷ v ∷ []) (pos k ∷ [])) (crossE v0 (timesE (at 6) v1)) (timesE (at 6) (crossE v0 v1)) (tt, tt, tt)

times_apart : (k : ℕ) (u v : V3) → 1 ≤ k → cross u v ≢ origin → cross u (times k v) ≢ origin
times_apart k u v one some e =
    let w = cross u v in
    let f = sym (cross_times k u v) ∙ e in
    some (same_vector w origin (cancel_zero k w.x one (ap (λ v. v.x) f)) (cancel_zero k w.y one (ap (λ v. v.y) f)) (cancel_zero k w.z one (ap (λ v. v.z) f)))

times_flat : (k : ℕ) (v n : V3) → dot v n ≡ pos 0 → dot (times k v) n ≡ pos 0
times_flat k v n e = dot_comm (times k v) n ∙ dot_multiple n (times k v) v k (λ i. times k v) ∙ ap (λ z. pos k *ℤ z) (dot_comm n v ∙ e) ∙ mul-zero_ℤ (pos k)

-- a combined vector at right angles to n, and not parallel to u, has such a member
hit : (few : List V3) (u n v : V3) → IsAbove n few → IsCombined few v → dot v n ≡ pos 0 → cross u v ≢ origin → Hit u n few
hit few u n v up c flat some =
    across_member u n c.numbers few up (subst (λ w. dot w n ≡ pos 0) (sym c.is) (times_flat c.k v n flat)) (subst (λ w. cross u w ≢ origin) (sym c.is) (times_apart c.k u v c.positive some))

pub few_facets_lemma : (few vs : List V3) (n : V3) → IsEnough few vs → IsConeFacet few n ↔ IsConeFacet vs n
unfolding Hit
few_facets_lemma few vs n is = (
  (λ f. let t = f.across in record {
    primitive = f.primitive;
    above = is.none_behind n f;
    across = record { u = t.u; v = t.v; u_in = is.members t.u t.u_in; v_in = is.members t.v t.v_in; independent = t.independent; u_on = t.u_on; v_on = t.v_on };
  }),
  (λ f.
      let t = f.across in
      let up : IsAbove n few = All-from_members (λ v. pos 0 ≤ℤ dot v n) few (λ v c. All-contains (λ v. pos 0 ≤ℤ dot v n) vs v f.above (is.members v c)) in
      let sum : (v : V3) → Contains vs v → IsCombined few v = λ v c. reached_by_few few v is.spanning (λ m fm. All-contains (λ v. pos 0 ≤ℤ dot v m) vs v (is.none_behind m fm) c) in
      let one = hit few t.v n t.u up (sum t.u t.u_in) t.u_on (λ q. t.independent (swap_zero t.u t.v q)) in
      let two = hit few one.0 n t.v up (sum t.v t.v_in) t.v_on (λ q. one.3 (swap_zero t.v one.0 q)) in
      record {
        primitive = f.primitive;
        above = up;
        across = record { u = one.0; v = two.0; u_in = one.1; v_in = two.1; independent = two.3; u_on = one.2; v_on = two.2 };
      }),
)
