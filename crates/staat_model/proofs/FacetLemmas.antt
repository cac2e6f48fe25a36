-- A facet is the primitive vector of the cross product of the two members that it is at right angles to, in one of the two orders; and a direction is reached exactly where it leads ahead of each facet.
use Rattle.std.proofs.Common.{◌≡◌, ◌↔◌, ◌≢◌, sym, ap, subst, ◌∙◌, pos, ◌<ℤ◌, ◌⊎◌, inl, inr, ⊎_elim, List, [], ◌∷◌}
use Rattle.std.proofs.lemmas.Int.{by_lt_z}
use Rattle.staat_vec.specs.declared.vector.V3.{V3}
use Rattle.staat_vec.specs.Vectors.{dot, cross, minus, plus, origin}
use Rattle.staat_vec.specs.Primitives.{IsPrimitive, IsPrimitiveOf, primitive}
use Rattle.staat_vec.proofs.Ring.{at, num}
use Rattle.staat_vec.proofs.VecRing.{VEx, dotE, crossE, minusE, plusE, ring3, timesE, values, v0, v1, v2, scale, dot_comm, cross_turned}
use Rattle.staat_model.specs.Cones.{IsSpanning, IsConeFacet, IsCrossing, IsReached}
use Rattle.staat_vec.proofs.Primitives.{IsPrimitive-some, parallel_primitives, primitive-is, primitive-negative, primitive-only}
use Rattle.staat_model.proofs.FarkasLemmas.{farkas_lemma}
use Rattle.staat_vec.proofs.Integers.{positive_nonpositive_clash, positive_pos}
use Rattle.staat_vec.proofs.VectorLaws.{cross_back, cross_twice, no_multiples, unscaled}

-- (f.f) n = (n.f) f for f = g x h
pub along : (n g h : V3) → dot g n ≡ pos 0 → dot h n ≡ pos 0 → scale (dot (cross g h) (cross g h)) n ≡ scale (dot n (cross g h)) (cross g h)
along n g h e f =
    let c : VEx = crossE v1 v2 in
    let f' = cross g h in
    ring3 (values (n ∷ g ∷ h ∷ []) []) (timesE (dotE c c) v0)
    (plusE (timesE (dotE v0 c) c) (minusE (timesE (dotE v2 v0) (crossE c v1)) (timesE (dotE v1 v0) (crossE c v2)))) (tt, tt, tt)
    ∙ (λ i. plus (scale (dot n f') f') (minus (scale (f i) (cross f' g)) (scale (e i) (cross f' h))))
    ∙ ring3 (values (f' ∷ cross f' g ∷ cross f' h ∷ []) (dot n f' ∷ [])) (plusE (timesE (at 9) v0) (minusE (timesE (num (pos 0)) v1) (timesE (num (pos 0)) v2))) (timesE (at 9) v0) (tt, tt, tt)

pub swap_zero : (g h : V3) → cross h g ≡ origin → cross g h ≡ origin
swap_zero g h = cross_back h g

-- a primitive vector at right angles to two that are not parallel is that of their cross product, in one of the two orders
pub across_crosses : (n u v : V3) → IsPrimitive n → cross u v ≢ origin → dot u n ≡ pos 0 → dot v n ≡ pos 0 → (n ≡ primitive (cross u v)) ⊎ (n ≡ primitive (cross v u))
across_crosses n u v p some on_u on_v =
    let q = primitive-is (cross u v) some in
    let flat : cross n (cross u v) ≡ origin =
    cross_twice n u v ∙ (λ i. minus (scale ((dot_comm n v ∙ on_v) i) u) (scale ((dot_comm n u ∙ on_u) i) v)) ∙ no_multiples u v in
    let parallel : cross n (primitive (cross u v)) ≡ origin = unscaled (pos q.factor) (cross n (primitive (cross u v))) (positive_pos q.factor q.positive)
    (ring3 (values (n ∷ primitive (cross u v) ∷ []) (pos q.factor ∷ [])) (timesE (at 6) (crossE v0 v1)) (crossE v0 (timesE (at 6) v1)) (tt, tt, tt) ∙ ap (cross n) (sym q.multiple) ∙ flat) in
    elim (parallel_primitives n (primitive (cross u v)) p q.primitive parallel) [
      | inl e ↦ inl e
      | inr e ↦ inr (e ∙ sym (ap primitive (cross_turned v u) ∙ primitive-negative (cross u v)))
    ]

pub facet_crosses_lemma : (vs : List V3) (n : V3) → IsConeFacet vs n → IsCrossing vs n
facet_crosses_lemma vs n f =
    let t = f.across in
    elim (across_crosses n t.u t.v f.primitive t.independent t.u_on t.v_on) [
      | inl e ↦ record { g = t.u; h = t.v; g_in = t.u_in; h_in = t.v_in; independent = t.independent; is = e }
      | inr e ↦ record { g = t.v; h = t.u; g_in = t.v_in; h_in = t.u_in; independent = λ z. t.independent (swap_zero t.u t.v z); is = e }
    ]

-- a vector other than zero has one primitive vector, and zero has none
pub one_primitive_lemma : (v p : V3) → IsPrimitiveOf v p ↔ ((v ≢ origin) × (p ≡ primitive v))
one_primitive_lemma v p = (
  (λ h. ((λ e. IsPrimitive-some p h.primitive (unscaled (pos h.factor) p (positive_pos h.factor h.positive) (sym h.multiple ∙ e))), primitive-only v p h)),
  λ (some, e). subst (λ q. IsPrimitiveOf v q) (sym e) (primitive-is v some),
)

pub reached_by_facets_lemma : (vs : List V3) (d : V3) → IsSpanning vs → IsReached vs d ↔ ((n : V3) → IsConeFacet vs n → pos 0 <ℤ dot n d)
reached_by_facets_lemma vs d spans =
    let law = farkas_lemma vs d spans in (
      (λ r n f. by_lt_z {P = pos 0 <ℤ dot n d} (pos 0) (dot n d) (λ h. h) (λ low. absurd (law.1 r (record { n = n; facet = f; away = low })))),
      λ ahead. ⊎_elim (λ r. r) (λ s. absurd (positive_nonpositive_clash (dot s.n d) (ahead s.n s.facet) s.away)) law.0,
    )
