-- What the links of a core say of its arcs.
use Rattle.std.proofs.Common.{◌≡◌, ◌↔◌, ℕ, pos, ◌<ℤ◌, List, inl, inr, ⊎_elim, sym, subst, ◌∙◌, All, Contains}
use Rattle.std.specs.Prelude.{Option}
use Rattle.std.proofs.lemmas.List.Elements.{All-contains, All-contains_itself, All-weaker}
use Rattle.staat_vec.specs.declared.vector.V3.{V3}
use Rattle.staat_vec.specs.Lists.{Lists}
use Rattle.staat_vec.specs.Vectors.{dot, negative, vector_cmp}
use Rattle.staat_model.specs.declared.assembly.Part.{Part}
use Rattle.staat_model.specs.declared.certificate.Arc.{Arc}
use Rattle.staat_model.specs.Assemblies.{HoldsAt, IsPart}
use Rattle.staat_model.specs.Cores.{IsCorePlane}
use Rattle.staat_model.specs.Facets.{IsFacet}
use Rattle.staat_model.specs.Meeting.{Meets}
use Rattle.staat_model.specs.Planes.{axes}
use Rattle.staat_model.specs.Removal.{MeetsAlong}
use Rattle.staat_model.proofs.GraphLemmas.{piece_in}
use Rattle.staat_model.proofs.PieceFacets.{meets_by_facets_lemma}
use Rattle.staat_model.proofs.Reversed.{meets_opposite_lemma}
use Rattle.staat_holds.specs.declared.links.Link.{Link}
use Rattle.staat_holds.specs.Holds.{AreHoldPlanes, HasPair, IsOfNode, LeadsBetween}
use Rattle.staat_motion.specs.Motions.{turned}
use Rattle.staat_holds.specs.Links.{AreLinkPlanes, AreLinks, HasLinkOther, IsLinkAhead, SomeLeads}
use Rattle.staat_holds.specs.Reaching.{AllReach}
use Rattle.staat_holds.proofs.LinkLemmas.{link_for, pair_for, same_node}
use Rattle.staat_holds.proofs.ReachLemmas.{all_carried, back}
use Rattle.staat_vec.proofs.Options.{some_injective}

-- ---- pairs turned round

-- two pieces at the opposite of d are the two in the other order at d
pub meets_turned : (parts : List Part) (pair : Arc) (d : V3) → MeetsAlong parts (negative d) pair ↔ MeetsAlong parts d (turned pair)
meets_turned parts pair d = (
  λ m. record { p = m.q; q = m.p; p_is = m.q_is; q_is = m.p_is; holds = (meets_opposite_lemma m.p m.q d).0 m.holds },
  λ m. record { p = m.q; q = m.p; p_is = m.q_is; q_is = m.p_is; holds = (meets_opposite_lemma m.q m.p d).1 m.holds },
)

pub has_turned : (core : List Arc) (pair : Arc) → HasPair core pair → HasPair core (turned pair)
has_turned core pair has = ⊎_elim {C = HasPair core (turned pair)} (λ c. inr c) (λ c. inl c) has

-- at the opposite of d each arc of the core leads the other way
pub leads_turned : (parts : List Part) (nodes : List (Option ℕ)) (core : List Arc) (d : V3) (x y : ℕ) → LeadsBetween parts nodes core d x y → LeadsBetween parts nodes core (negative d) y x
leads_turned parts nodes core d x y l = record {
  pair = turned l.pair;
  listed = has_turned core l.pair l.listed;
  from = l.to;
  to = l.from;
  meets = (meets_turned parts (turned l.pair) d).1 l.meets;
}

pub opposite_reach : (parts : List Part) (nodes : List (Option ℕ)) (count : ℕ) (core : List Arc) (d : V3) → AllReach count (LeadsBetween parts nodes core d) → AllReach count (LeadsBetween parts nodes core (negative d))
opposite_reach parts nodes count core d all x y x_lt y_lt = back (λ a b l. leads_turned parts nodes core d a b l) (all y x y_lt x_lt)

-- ---- links and arcs

module _ (parts : List Part) (each : All IsPart parts) where
  link_ahead : (pair : Arc) (link : Link) (d : V3) → HoldsAt parts pair (λ p q. Lists vector_cmp (IsFacet p q) link.facets) → IsLinkAhead link d ↔ MeetsAlong parts d pair
  link_ahead pair link d h =
      let is_p = piece_in parts pair.a pair.i h.p each h.p_is in
      let is_q = piece_in parts pair.b pair.j h.q each h.q_is in
      let by = meets_by_facets_lemma h.p h.q d is_p is_q in
      let lists : Lists vector_cmp (IsFacet h.p h.q) link.facets = h.holds in (
        λ ahead. record { p = h.p; q = h.q; p_is = h.p_is; q_is = h.q_is; holds = by.1 (λ n f. All-contains (λ n. pos 0 <ℤ dot n d) link.facets n ahead (lists.all n f)) },
        λ m.
            let first : m.p ≡ h.p = some_injective m.p h.p (sym m.p_is ∙ h.p_is) in
            let second : m.q ≡ h.q = some_injective m.q h.q (sym m.q_is ∙ h.q_is) in
            let meets : Meets h.p h.q d = subst (λ z. Meets h.p z d) second (subst (λ z. Meets z m.q d) first m.holds) in
            All-weaker (Contains link.facets) (λ n. pos 0 <ℤ dot n d) (λ n c. by.0 meets n (lists.each n c)) link.facets (All-contains_itself link.facets),
      )

  link_behind : (pair : Arc) (link : Link) (d : V3) → HoldsAt parts pair (λ p q. Lists vector_cmp (IsFacet p q) link.facets) → IsLinkAhead link (negative d) ↔ MeetsAlong parts d (turned pair)
  link_behind pair link d h =
      let a = link_ahead pair link (negative d) h in
      let t = meets_turned parts pair d in
      (λ ahead. t.0 (a.0 ahead), λ m. a.1 (t.1 m))

  module _ (nodes : List (Option ℕ)) (core : List Arc) (links : List Link) (are : AreLinks parts nodes core links) where
    leads_to : (d : V3) (x y : ℕ) → SomeLeads links d x y → LeadsBetween parts nodes core d x y
    leads_to d x y (link, listed, inl (ahead, from, to)) =
        let (pair, at, is) = pair_for parts nodes core links link are listed in
        record { pair = pair; listed = inl at; from = subst (λ k. IsOfNode nodes k pair.a) from is.from; to = subst (λ k. IsOfNode nodes k pair.b) to is.to; meets = (link_ahead pair link d is.facets).0 ahead }
    leads_to d x y (link, listed, inr (behind, to, from)) =
        let (pair, at, is) = pair_for parts nodes core links link are listed in
        record { pair = turned pair; listed = inr at; from = subst (λ k. IsOfNode nodes k pair.b) to is.to; to = subst (λ k. IsOfNode nodes k pair.a) from is.from; meets = (link_behind pair link d is.facets).0 behind }

    leads_from : (d : V3) (x y : ℕ) → LeadsBetween parts nodes core d x y → SomeLeads links d x y
    leads_from d x y l = ⊎_elim {C = SomeLeads links d x y} ahead behind l.listed
      where
        ahead : Contains core l.pair → SomeLeads links d x y
        ahead c =
            let (link, at, is) = link_for parts nodes core links l.pair are c in
            (link, at, inl ((link_ahead l.pair link d is.facets).1 l.meets, same_node nodes l.pair.a link.from x is.from l.from, same_node nodes l.pair.b link.to y is.to l.to))

        behind : Contains core (turned l.pair) → SomeLeads links d x y
        behind c =
            let (link, at, is) = link_for parts nodes core links (turned l.pair) are c in
            (link, at, inr ((link_behind (turned l.pair) link d is.facets).1 l.meets, same_node nodes l.pair.a link.to x is.to l.from, same_node nodes l.pair.b link.from y is.from l.to))

    pub all_leads : (count : ℕ) (d : V3) → AllReach count (SomeLeads links d) ↔ AllReach count (LeadsBetween parts nodes core d)
    all_leads count d = all_carried count (λ x y. (leads_to d x y, leads_from d x y))

    -- ---- planes

    other_to : (n : V3) → HasLinkOther links n → IsCorePlane parts core n × (Contains axes n → ⊥)
    other_to n (link, listed, (facet, c, is)) =
        let (pair, at, of) = pair_for parts nodes core links link are listed in
        let h = of.facets in
        (record { arc = pair; facet = facet; listed = at; holds = record { p = h.p; q = h.q; p_is = h.p_is; q_is = h.q_is; holds = h.holds.each facet c }; is = is.0 }, is.1)

    other_from : (n : V3) → IsCorePlane parts core n × (Contains axes n → ⊥) → HasLinkOther links n
    other_from n (plane, off) =
        let (link, at, of) = link_for parts nodes core links plane.arc are plane.listed in
        let h = of.facets in
        let f = plane.holds in
        let first : f.p ≡ h.p = some_injective f.p h.p (sym f.p_is ∙ h.p_is) in
        let second : f.q ≡ h.q = some_injective f.q h.q (sym f.q_is ∙ h.q_is) in
        let facet : IsFacet h.p h.q plane.facet = subst (λ z. IsFacet h.p z plane.facet) second (subst (λ z. IsFacet z f.q plane.facet) first f.holds) in
        (link, at, (plane.facet, h.holds.all plane.facet facet, (plane.is, off)))

    pub hold_planes : (planes : List V3) → AreLinkPlanes links planes → AreHoldPlanes parts core planes
    hold_planes planes of_links =
        let lists = of_links.others_are in record {
          others = of_links.others;
          others_are = record { ascending = lists.ascending; each = λ n c. other_to n (lists.each n c); all = λ n h. lists.all n (other_from n h) };
          is = of_links.is;
        }
