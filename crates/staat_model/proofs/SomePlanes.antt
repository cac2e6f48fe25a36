-- There are lists of the facets of two pieces and of the planes of a set of parts.
use Rattle.std.proofs.Common.{◌≡◌, ◌≢◌, ℕ, ◌<◌, pos, ◌≤ℤ◌, List, ◌++◌, All, sym, ◌∙◌, subst, refl, inl, inr, arith}
use Rattle.std.specs.Prelude.{Contains, Option, None, Some, length, option_map, slice_get, unwrap_or}
use Rattle.staat_vec.specs.declared.vector.V3.{V3}
use Rattle.staat_vec.specs.Primitives.{canon, primitive}
use Rattle.staat_vec.specs.Vectors.{cross, dot, minus, origin, vector_cmp}
use Rattle.staat_vec.proofs.VectorOrder.{vector_exact, vector_total}
use Rattle.staat_model.specs.declared.assembly.Part.{Part}
use Rattle.staat_model.specs.declared.certificate.Arc.{Arc}
use Rattle.staat_model.specs.declared.set.PartSet.{PartSet}
use Rattle.staat_model.specs.Assemblies.{HoldsAt, piece_at, piece_count}
use Rattle.staat_model.specs.Certificates.{IsAcross}
use Rattle.staat_model.specs.Cones.{differences}
use Rattle.staat_model.specs.Facets.{IsFacet}
use Rattle.staat_model.specs.Planes.{ArePlanes, IsFacetPlane, axes}
use Rattle.staat_model.specs.Sets.{Has}
use Rattle.staat_model.specs.Walls.{IsBeyond}
use Rattle.staat_model.proofs.Decisions.{Decided, all_decided, both_or, contains_or, equal_or, le_or, nat_or, not_or}
use Rattle.staat_model.proofs.Corners.{on_both}
use Rattle.staat_model.proofs.FreeSides.{member_or}
use Rattle.staat_model.proofs.Listings.{Listing, listing_and, listing_as, listing_below, listing_image, listing_members, listing_none, listing_over, listing_sorted}
use Rattle.staat_model.proofs.PieceFacets.{beyond_is_above, differences_are, facets_from_differences_lemma, from_cone_facet}
use Rattle.staat_model.proofs.Places.{place_within}
use Rattle.staat_model.proofs.PlanLemmas.{held_across}

pub vector_or : (a b : V3) → Decided (a ≡ b)
vector_or = equal_or vector_cmp vector_total vector_exact

-- ---- facets

pub beyond_or : (p q : List V3) (n : V3) → Decided (IsBeyond p q n)
beyond_or p q n = all_decided (λ a. All (λ b. pos 0 ≤ℤ dot n (minus b a)) q) (λ a. all_decided (λ b. pos 0 ≤ℤ dot n (minus b a)) (λ b. le_or (pos 0) (dot n (minus b a))) q) p

-- n is the primitive vector of the cross product of two of the vectors
pub Crosses : List V3 → V3 → Type 0
Crosses vs n = (g : V3) × Contains vs g × ((h : V3) × (Contains vs h × (cross g h ≢ origin)) × (n ≡ primitive (cross g h)))

crossings_listing : (vs : List V3) → Listing (Crosses vs)
unfolding Crosses
crossings_listing vs = listing_over (λ g n. (h : V3) × (Contains vs h × (cross g h ≢ origin)) × (n ≡ primitive (cross g h))) (listing_members vs)
    (λ g. listing_image (λ h. primitive (cross g h)) (listing_and (λ h. cross g h ≢ origin) (λ h. not_or (vector_or (cross g h) origin)) (listing_members vs)))

facet_crosses : (p q : List V3) (n : V3) → IsFacet p q n → Crosses (differences p q) n × IsBeyond p q n
unfolding Crosses
facet_crosses p q n f = let c = facets_from_differences_lemma p q n f in ((c.g, c.g_in, (c.h, (c.h_in, c.independent), c.is)), f.beyond)

crosses_facet : (p q : List V3) (n : V3) → Crosses (differences p q) n × IsBeyond p q n → IsFacet p q n
unfolding Crosses
crosses_facet p q n ((g, g_in, (h, (h_in, apart), is)), beyond) =
    let vs = differences p q in
    let are = differences_are p q in
    let on = on_both n g h apart (inl is) in
    from_cone_facet p q vs n are (record {
      primitive = on.primitive;
      above = beyond_is_above p q vs n are beyond;
      across = record { u = g; v = h; u_in = g_in; v_in = h_in; independent = apart; u_on = on.on_g; v_on = on.on_h };
    })

pub facets_listing : (p q : List V3) → Listing (IsFacet p q)
facets_listing p q = listing_as (crosses_facet p q) (facet_crosses p q) (listing_and (IsBeyond p q) (beyond_or p q) (crossings_listing (differences p q)))

-- ---- pieces

-- whether a relation holds of the pieces of an arc
pub holds_or : (parts : List Part) (arc : Arc) (R : List V3 → List V3 → Type 0) → ((p q : List V3) → Decided (R p q)) → Decided (HoldsAt parts arc R)
holds_or parts arc R f = go (piece_at parts arc.a arc.i) (piece_at parts arc.b arc.j) refl refl
  where
    go : (x y : Option (List V3)) → piece_at parts arc.a arc.i ≡ x → piece_at parts arc.b arc.j ≡ y → Decided (HoldsAt parts arc R)
    go None y e g = inr (λ h. let wrong : None ≡ Some h.p = sym e ∙ h.p_is in cc)
    go (Some p) None e g = inr (λ h. let wrong : None ≡ Some h.q = sym g ∙ h.q_is in cc)
    go (Some p) (Some q) e g = elim (f p q) [
      | inl r ↦ inl (record { p = p; q = q; p_is = e; q_is = g; holds = r })
      | inr not ↦ inr (λ h. let first : Some p ≡ Some h.p = sym e ∙ h.p_is in let second : Some q ≡ Some h.q = sym g ∙ h.q_is in
          let ps : h.p ≡ p = cc in let qs : h.q ≡ q = cc in not (subst (λ z. R p z) qs (subst (λ z. R z h.q) ps h.holds)))
    ]

pub arc_facets : (parts : List Part) (arc : Arc) → Listing (λ f. HoldsAt parts arc (λ p q. IsFacet p q f))
arc_facets parts arc = go (piece_at parts arc.a arc.i) (piece_at parts arc.b arc.j) refl refl
  where
    go : (x y : Option (List V3)) → piece_at parts arc.a arc.i ≡ x → piece_at parts arc.b arc.j ≡ y → Listing (λ f. HoldsAt parts arc (λ p q. IsFacet p q f))
    go None y e g = listing_none (λ f h. let wrong : None ≡ Some h.p = sym e ∙ h.p_is in absurd cc)
    go (Some p) None e g = listing_none (λ f h. let wrong : None ≡ Some h.q = sym g ∙ h.q_is in absurd cc)
    go (Some p) (Some q) e g = listing_as (λ f r. record { p = p; q = q; p_is = e; q_is = g; holds = r })
        (λ f h. let first : Some p ≡ Some h.p = sym e ∙ h.p_is in let second : Some q ≡ Some h.q = sym g ∙ h.q_is in
        let ps : h.p ≡ p = cc in let qs : h.q ≡ q = cc in subst (λ z. IsFacet p z f) qs (subst (λ z. IsFacet z h.q f) ps h.holds))
        (facets_listing p q)

-- ---- arcs

abbrev arc_at : (a i b j : ℕ) → Arc
arc_at a i b j = record { a = a; i = i; b = b; j = j }

-- a part that has a piece exists
pub part_there : (parts : List Part) (a i : ℕ) → i < piece_count parts a → a < length parts
part_there parts a i = go (slice_get parts a) refl
  where
    go : (o : Option Part) → slice_get parts a ≡ o → i < unwrap_or (option_map (λ part. length part.pieces) o) 0 → a < length parts
    go None e lt = absurd (omega (arith, lt))
    go (Some part) e lt = place_within parts a part e

-- all pieces that exist, each by its part and its number there
abbrev Place : List Part → ℕ × ℕ → Type 0
Place parts t = t.1 < piece_count parts t.0

places : (parts : List Part) → Listing (Place parts)
places parts = listing_as
    (λ t (a, a_in, (i, i_in, is)). subst (λ (z : ℕ × ℕ). z.1 < piece_count parts z.0) (sym is) i_in)
    (λ t h. (t.0, part_there parts t.0 t.1 h, (t.1, h, refl)))
    (listing_over (λ a t. (i : ℕ) × (i < piece_count parts a) × (t ≡ (a, i))) (listing_below (length parts)) (λ a. listing_image (λ i. (a, i)) (listing_below (piece_count parts a))))

-- all arcs between pieces that exist
pub arcs_listing : (parts : List Part) (s r : PartSet) → Listing (IsAcross parts s r)
arcs_listing parts s r = listing_as
    (λ arc ((t, t_in, (u, u_in, is)), (has_a, has_b)). record {
      a_in = has_a;
      b_in = has_b;
      i_in = subst (λ (z : Arc). z.i < piece_count parts z.a) (sym is) t_in;
      j_in = subst (λ (z : Arc). z.j < piece_count parts z.b) (sym is) u_in;
    })
    (λ arc h. (((arc.a, arc.i), h.i_in, ((arc.b, arc.j), h.j_in, refl)), (h.a_in, h.b_in)))
    (listing_and (λ arc. Has s arc.a × Has r arc.b) (λ arc. both_or (member_or s arc.a) (member_or r arc.b))
    (listing_over (λ t arc. (u : ℕ × ℕ) × Place parts u × (arc ≡ arc_at t.0 t.1 u.0 u.1)) (places parts) (λ t. listing_image (λ u. arc_at t.0 t.1 u.0 u.1) (places parts))))

-- ---- planes

-- a set of parts has a table of planes
pub some_planes : (parts : List Part) (w : PartSet) → (planes : List V3) × ArePlanes parts w planes
some_planes parts w =
    let Facet : Arc → V3 → Type 0 = λ arc f. HoldsAt parts arc (λ p q. IsFacet p q f) in
    let pairs : Listing (λ arc. IsAcross parts w w arc × (arc.a ≢ arc.b)) = listing_and (λ arc. arc.a ≢ arc.b) (λ arc. not_or (nat_or arc.a arc.b)) (arcs_listing parts w w) in
    let planes : Listing (IsFacetPlane parts w) = listing_as
    (λ n (f, (arc, (across, different), holds), is). record { arc = arc; facet = f; a_in = across.a_in; b_in = across.b_in; different = different; holds = holds; is = is })
    (λ n h. (h.facet, (h.arc, (held_across parts w w h.arc h.a_in h.b_in h.holds, h.different), h.holds), h.is))
    (listing_image canon (listing_over Facet pairs (arc_facets parts))) in
    let others : Listing (λ n. IsFacetPlane parts w n × (Contains axes n → ⊥)) =
    listing_and (λ n. Contains axes n → ⊥) (λ n. not_or (contains_or vector_cmp vector_total vector_exact axes n)) planes in
    let (ns, are) = listing_sorted vector_cmp vector_total vector_exact others in
    (axes ++ ns, record { others = ns; others_are = are; is = refl })
