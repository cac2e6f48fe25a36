-- A core that holds a set of parts together at the crossings with a plane does so along each direction on the plane.
use Rattle.std.proofs.Common.{◌≡◌, ◌≢◌, zero, suc, refl, sym, ap, ◌∙◌, arith, pos, inl, inr, ⊎_elim, List, ◌∷◌, All, Contains}
use Rattle.staat_vec.specs.declared.vector.V3.{V3}
use Rattle.staat_vec.specs.Vectors.{dot, cross, origin}
use Rattle.staat_vec.specs.Primitives.{IsPrimitive, primitive, canon}
use Rattle.staat_vec.proofs.VecRing.{cross_self, cross_turned}
use Rattle.staat_vec.proofs.Primitives.{IsPrimitive-some, primitive-negative}
use Rattle.staat_model.specs.declared.assembly.Part.{Part}
use Rattle.staat_model.specs.declared.set.PartSet.{PartSet}
use Rattle.staat_model.specs.declared.certificate.Arc.{Arc}
use Rattle.staat_model.specs.Assemblies.{IsPart}
use Rattle.staat_model.specs.Cores.{HasCorePlanes, IsCrossingOn, IsFreeAtCrossing, IsFreeAtVertex, IsFreeInCore}
use Rattle.staat_model.specs.Removal.{MeetsAlong}
use Rattle.staat_model.proofs.Corners.{IsCornerTowards, axes_held, IsTowards, corner_towards, on_both}
use Rattle.staat_model.proofs.FacetLemmas.{across_crosses}
use Rattle.staat_model.proofs.GraphLemmas.{meets_where}
use Rattle.staat_model.proofs.SomePlanes.{vector_or}
use Rattle.staat_model.proofs.VertexLemmas.{in_vertices}
use Rattle.staat_vec.proofs.Integers.{zero_from_bounds, zero_nonneg, zero_nonpositive}
use Rattle.staat_vec.proofs.Unique.{Contains-front}
use Rattle.staat_vec.proofs.ListLaws.{Contains-there}
use Rattle.staat_vec.proofs.VectorLaws.{parallel_cross}

-- ---- the core at a direction that is on no other side of its planes

pub meets_towards : (parts : List Part) (core : List Arc) (planes : List V3) (d v : V3) (arc : Arc) → All IsPart parts → HasCorePlanes parts core planes → ((m : V3) → Contains planes m → IsTowards d v m)
    → Contains core arc → MeetsAlong parts v arc → MeetsAlong parts d arc
meets_towards parts core planes d v arc each has towards listed m =
    meets_where parts d v arc each (λ n h. towards (canon n) (has.has_facets (canon n) (record { arc = arc; facet = n; listed = listed; is = refl; holds = h }))) m

-- what is free along some direction is free along a vertex, whatever the sides are
pub free_at_vertex_lemma : (parts : List Part) (core : List Arc) (planes : List V3) (s r : PartSet) (d : V3)
    → All IsPart parts → HasCorePlanes parts core planes → d ≢ origin
    → IsFreeInCore parts core s r d → IsFreeAtVertex parts core planes s r
free_at_vertex_lemma parts core planes s r d each has some free =
    let (v, c) = corner_towards planes d (axes_held planes has.has_axes) some in
    let on = on_both v c.g c.h c.independent c.is in record {
      v = v;
      vertex = record {
        listed = in_vertices planes c.g c.h v c.g_in c.h_in c.independent c.is;
        moves = IsPrimitive-some v on.primitive;
      };
      free = λ arc listed a_in b_in m.
          free arc listed a_in b_in (meets_towards parts core planes d v arc each has c.towards listed m);
    }

-- ---- a corner on the plane of g

-- a primitive vector on the plane of g and on another one that is not parallel
crossing_at : (g : V3) (planes : List V3) (v h : V3) → IsPrimitive v → dot g v ≡ pos 0 → dot h v ≡ pos 0 → Contains (g ∷ planes) h → cross g h ≢ origin → IsCrossingOn g planes v
crossing_at g planes v h is on_g on_h (zero, lt, e) apart = absurd (apart (ap (cross g) (sym e) ∙ cross_self g))
crossing_at g planes v h is on_g on_h (suc k, lt, e) apart = record {
  h = h;
  h_in = (k, omega arith, e);
  apart = apart;
  is = ⊎_elim (λ p. inl p) (λ p. inr (p ∙ ap primitive (cross_turned h g) ∙ primitive-negative (cross g h))) (across_crosses v g h is apart on_g on_h);
}

crossing_on : (g d v : V3) (planes : List V3) → g ≢ origin → dot g v ≡ pos 0 → IsCornerTowards (g ∷ planes) d v → IsCrossingOn g planes v
crossing_on g d v planes some on c =
    let o = on_both v c.g c.h c.independent c.is in
    elim (vector_or (cross g c.g) origin) [
      | inr n ↦ crossing_at g planes v c.g o.primitive on o.on_g c.g_in n
      | inl p ↦ elim (vector_or (cross g c.h) origin) [
        | inr n ↦ crossing_at g planes v c.h o.primitive on o.on_h c.h_in n
        | inl q ↦ absurd (c.independent (parallel_cross g c.g c.h some p q))
      ]
    ]

-- what is free along some direction on the plane of g is free along a crossing of it
pub free_at_crossing_lemma : (parts : List Part) (core : List Arc) (planes : List V3) (g : V3) (s r : PartSet) (d : V3)
    → All IsPart parts → HasCorePlanes parts core planes → g ≢ origin → d ≢ origin → dot g d ≡ pos 0
    → IsFreeInCore parts core s r d → IsFreeAtCrossing parts core planes g s r
free_at_crossing_lemma parts core planes g s r d each has g_some some on free =
    let (v, c) = corner_towards (g ∷ planes) d (axes_held (g ∷ planes) (λ axis c. Contains-there g axis planes (has.has_axes axis c))) some in
    let t = c.towards g (Contains-front g planes) in
    let on_v : dot g v ≡ pos 0 = zero_from_bounds (dot g v) (t.up (zero_nonneg (dot g d) on)) (t.down (zero_nonpositive (dot g d) on)) in record {
      v = v;
      crossing = crossing_on g d v planes g_some on_v c;
      free = λ arc listed a_in b_in m.
          free arc listed a_in b_in
          (meets_towards parts core planes d v arc each has (λ n n_in. c.towards n (Contains-there g n planes n_in)) listed m);
    }
