-- Nodes that a core holds together wherever its planes cross are stuck together.
use Rattle.std.proofs.Common.{◌≡◌, ◌≢◌, ℕ, zero, suc, ◌*◌, ◌<◌, pos, List, [], ◌∷◌, ◌++◌, map, inl, inr, ⊎_elim, refl, sym, ap, subst, ◌∙◌, arith, All, Contains}
use Rattle.std.specs.Prelude.{Option, Some, slice_get}
use Rattle.std.specs.FinSet as set
use Rattle.std.proofs.lemmas.List.Elements.{All-contains, Contains-append_cases, Contains-append_left, Contains-append_right}
use Rattle.staat_vec.specs.declared.vector.V3.{V3}
use Rattle.staat_vec.specs.Primitives.{canon, primitive}
use Rattle.staat_vec.specs.Vectors.{cross, negative, origin, plus, times}
use Rattle.staat_vec.proofs.Canons.{canon-negative}
use Rattle.staat_vec.proofs.Primitives.{IsPrimitive-some, primitive-is}
use Rattle.staat_model.specs.declared.assembly.Part.{Part}
use Rattle.staat_model.specs.declared.certificate.Arc.{Arc}
use Rattle.staat_model.specs.declared.set.PartSet.{PartSet}
use Rattle.staat_model.specs.Assemblies.{HoldsAt, IsPart}
use Rattle.staat_model.specs.Cores.{HasCorePlanes, IsCorePlane, IsFreeInCore}
use Rattle.staat_model.specs.Facets.{IsFacet}
use Rattle.staat_model.specs.Groups.{AreNodes, HoldsNodes, KeepsWhole}
use Rattle.staat_model.specs.Meeting.{Meets, mix}
use Rattle.staat_model.specs.Planes.{axes}
use Rattle.staat_model.specs.Plans.{IsStuck}
use Rattle.staat_model.specs.SetLists.{union_of}
use Rattle.staat_model.specs.Sets.{Has}
use Rattle.staat_model.proofs.CoreLemmas.{meets_towards}
use Rattle.staat_model.proofs.Corners.{HoldsAxes, IsSame, corner_towards}
use Rattle.staat_model.proofs.FreeSides.{member_or}
use Rattle.staat_model.proofs.GroupLemmas.{nodes_stuck_lemma, within_union}
use Rattle.staat_model.proofs.Listings.{Listing, listing_image, listing_members, listing_over}
use Rattle.staat_model.proofs.Places.{place_within, some_at}
use Rattle.staat_model.proofs.Reversed.{opposite_facets_lemma}
use Rattle.staat_model.proofs.SetMembers.{has-difference, has-empty, has-union}
use Rattle.staat_model.proofs.SetWords.{same_members}
use Rattle.staat_holds.specs.Holds.{AreNodeSets, HasPair, IsCorePair, JoinsNodes, IsOfNode, IsHoldPlane, LeadsBetween}
use Rattle.staat_motion.specs.Motions.{turned}
use Rattle.staat_holds.specs.Reaching.{AllReach, Reaches, here, along}
use Rattle.staat_holds.proofs.HoldLemmas.{opposite_reach}
use Rattle.staat_holds.proofs.LinkLemmas.{node_few}
use Rattle.staat_holds.proofs.ReachLemmas.{carried}
use Rattle.staat_vec.proofs.VectorLaws.{times_twice}
use Rattle.staat_model.proofs.SomePlanes.{arc_facets}
use Rattle.staat_vec.proofs.Unique.{from_place}

-- ---- shorter directions

-- what meets along a multiple of a direction meets along the direction, later
meets_shorter : (p q : List V3) (k : ℕ) (d : V3) → Meets p q (times k d) → Meets p q d
meets_shorter p q k d m =
    let r = m.meeting in record {
      t = m.t * k;
      meeting = record {
        a = r.a;
        b = r.b;
        a_weights = r.a_weights;
        b_weights = r.b_weights;
        same_sum = r.same_sum;
        same_place = ap (plus (mix r.a p)) (sym (times_twice m.t k d)) ∙ r.same_place;
      };
    }

leads_shorter : (parts : List Part) (nodes : List (Option ℕ)) (core : List Arc) (c d : V3) (k : ℕ) → c ≡ times k d → (x y : ℕ) → LeadsBetween parts nodes core c x y → LeadsBetween parts nodes core d x y
leads_shorter parts nodes core c d k e x y l =
    let m = l.meets in record {
      pair = l.pair;
      listed = l.listed;
      from = l.from;
      to = l.to;
      meets = record { p = m.p; q = m.q; p_is = m.p_is; q_is = m.q_is; holds = meets_shorter m.p m.q k d (subst (Meets m.p m.q) e m.holds) };
    }

-- so the nodes reach each other at the primitive vector of a crossing, and at its opposite
pub held_at : (parts : List Part) (nodes : List (Option ℕ)) (count : ℕ) (core : List Arc) (g h v : V3) → JoinsNodes parts nodes count core → IsHoldPlane parts core g → IsHoldPlane parts core h → cross g h ≢ origin
    → IsSame v (primitive (cross g h)) → AllReach count (LeadsBetween parts nodes core v)
held_at parts nodes count core g h v held plane_g plane_h apart same = go same
  where
    first : AllReach count (LeadsBetween parts nodes core (primitive (cross g h)))
    first x y x_lt y_lt =
        let p = primitive-is (cross g h) apart in
        carried (leads_shorter parts nodes core (cross g h) (primitive (cross g h)) p.factor p.multiple) (held g h plane_g plane_h apart x y x_lt y_lt)

    go : IsSame v (primitive (cross g h)) → AllReach count (LeadsBetween parts nodes core v)
    go (inl e) = subst (λ d. AllReach count (LeadsBetween parts nodes core d)) (sym e) first
    go (inr e) = subst (λ d. AllReach count (LeadsBetween parts nodes core d)) (sym e) (opposite_reach parts nodes count core (primitive (cross g h)) first)

-- ---- the core with its pairs in both orders

abbrev both_orders : List Arc → List Arc
both_orders core = core ++ map turned core

in_turned : (core : List Arc) (pair : Arc) → Contains core pair → Contains (map turned core) (turned pair)
in_turned [] pair (k, lt, e) = absurd (omega (arith, lt))
in_turned (p ∷ core) pair (zero, lt, e) = (zero, omega arith, ap turned e)
in_turned (p ∷ core) pair (suc k, lt, e) = let (m, in', is) = in_turned core pair (k, omega (arith, lt), e) in (suc m, omega (arith, in'), is)

from_turned : (core : List Arc) (pair : Arc) → Contains (map turned core) pair → Contains core (turned pair)
from_turned [] pair (k, lt, e) = absurd (omega (arith, lt))
from_turned (p ∷ core) pair (zero, lt, e) = (zero, omega arith, ap turned e)
from_turned (p ∷ core) pair (suc k, lt, e) = let (m, in', is) = from_turned core pair (k, omega (arith, lt), e) in (suc m, omega (arith, in'), is)

to_both : (core : List Arc) (pair : Arc) → HasPair core pair → Contains (both_orders core) pair
to_both core pair has = ⊎_elim {C = Contains (both_orders core) pair} (λ c. Contains-append_left core (map turned core) pair c)
    (λ c. Contains-append_right core (map turned core) pair (in_turned core (turned pair) c)) has

from_both : (core : List Arc) (pair : Arc) → Contains (both_orders core) pair → HasPair core pair
from_both core pair c = ⊎_elim {C = HasPair core pair} (λ c. inl c) (λ c. inr (from_turned core pair c)) (Contains-append_cases core (map turned core) pair c)

-- ---- a list of its planes

some_planes : (parts : List Part) (core : List Arc) → Listing (λ n. (f : V3) × ((arc : Arc) × Contains core arc × HoldsAt parts arc (λ p q. IsFacet p q f)) × (n ≡ canon f))
some_planes parts core = listing_image canon (listing_over (λ arc f. HoldsAt parts arc (λ p q. IsFacet p q f)) (listing_members core) (arc_facets parts))

planes_of : List Part → List Arc → List V3
planes_of parts core = let l = some_planes parts core in axes ++ l.xs

planes_are : (parts : List Part) (core : List Arc) (n : V3) → Contains (planes_of parts core) n → IsHoldPlane parts core n
unfolding planes_of
planes_are parts core n c =
    let l = some_planes parts core in
    ⊎_elim {C = IsHoldPlane parts core n} (λ axis. inl axis)
    (λ other. let (f, (arc, listed, holds), is) = l.from n other in inr (record { arc = arc; facet = f; listed = listed; holds = holds; is = is }))
    (Contains-append_cases axes l.xs n c)

planes_all : (parts : List Part) (core : List Arc) (n : V3) → IsHoldPlane parts core n → Contains (planes_of parts core) n
unfolding planes_of
planes_all parts core n plane =
    let l = some_planes parts core in
    ⊎_elim {C = Contains (planes_of parts core) n} (λ axis. Contains-append_left axes l.xs n axis)
    (λ p. Contains-append_right axes l.xs n (l.all n (p.facet, (p.arc, p.listed, p.holds), p.is))) plane

-- the planes of the pairs in both orders are those of the pairs
both_planes : (parts : List Part) (core : List Arc) (n : V3) → IsCorePlane parts (both_orders core) n → IsHoldPlane parts core n
both_planes parts core n p =
    let h = p.holds in
    let some : p.facet ≢ origin = IsPrimitive-some p.facet h.holds.primitive in
    ⊎_elim {C = IsHoldPlane parts core n}
    (λ c. inr (record { arc = p.arc; facet = p.facet; listed = c; holds = h; is = p.is }))
    (λ c. inr (record {
      arc = turned p.arc;
      facet = negative p.facet;
      listed = c;
      holds = record { p = h.q; q = h.p; p_is = h.q_is; q_is = h.p_is; holds = (opposite_facets_lemma h.p h.q p.facet).0 h.holds };
      is = p.is ∙ sym (canon-negative p.facet some);
    }))
    (from_both core p.arc p.listed)

has_planes : (parts : List Part) (core : List Arc) → HasCorePlanes parts (both_orders core) (planes_of parts core)
has_planes parts core = record {
  has_axes = λ n axis. planes_all parts core n (inl axis);
  has_facets = λ n p. planes_all parts core n (both_planes parts core n p);
}

have_axes : (parts : List Part) (core : List Arc) → HoldsAxes (planes_of parts core)
have_axes parts core = record {
  x = planes_all parts core (record { x = pos 1; y = pos 0; z = pos 0 }) (inl (0, omega arith, refl));
  y = planes_all parts core (record { x = pos 0; y = pos 1; z = pos 0 }) (inl (1, omega arith, refl));
  z = planes_all parts core (record { x = pos 0; y = pos 0; z = pos 1 }) (inl (2, omega arith, refl));
}

-- ---- nodes as sets

pub union_has : (sets : List PartSet) (p : ℕ) → Has (union_of sets) p → (k : ℕ) × ((s : PartSet) × (slice_get sets k ≡ Some s) × Has s p)
union_has [] p h = absurd (has-empty p h)
union_has (s ∷ sets) p h = ⊎_elim {C = (k : ℕ) × ((t : PartSet) × (slice_get (s ∷ sets) k ≡ Some t) × Has t p)}
    (λ m. (0, (s, refl, m)))
    (λ m. let (k, t) = union_has sets p m in (suc k, t))
    ((has-union s (union_of sets) p).0 h)

module _ (parts : List Part) (nodes : List (Option ℕ)) (count : ℕ) (core : List Arc) (sets : List PartSet) (pairs : All (IsCorePair parts nodes count) core) (are : AreNodeSets nodes count sets) where
  -- an arc leads to one of the first nodes
  to_few : (d : V3) (x y : ℕ) → LeadsBetween parts nodes core d x y → y < count
  to_few d x y l = ⊎_elim {C = y < count}
      (λ c. let p = All-contains (IsCorePair parts nodes count) core l.pair pairs c in node_few nodes count l.pair.b y p.second l.to)
      (λ c. let p = All-contains (IsCorePair parts nodes count) core (turned l.pair) pairs c in node_few nodes count l.pair.b y p.first l.to)
      l.listed

  set_of : (k : ℕ) → k < count → (s : PartSet) × (slice_get sets k ≡ Some s)
  set_of k lt = let long = are.number in some_at sets k (omega (arith, lt, long))

  -- a side that keeps each node whole has all of the node of each of its parts
  whole_node : (s : PartSet) (k p q : ℕ) → KeepsWhole sets s → k < count → IsOfNode nodes k p → Has s p → IsOfNode nodes k q → Has s q
  whole_node s k p q whole lt of_p in_s of_q =
      let (t, here_is) = set_of k lt in
      whole t (from_place sets k t here_is) p q ((are.members k p t here_is).1 of_p) ((are.members k q t here_is).1 of_q) in_s

  in_union : (k p : ℕ) → k < count → IsOfNode nodes k p → Has (union_of sets) p
  in_union k p lt of_p = let (t, here_is) = set_of k lt in within_union sets t (from_place sets k t here_is) p ((are.members k p t here_is).1 of_p)

  -- along arcs of the core a free side does not end
  stays_in : (s : PartSet) (d : V3) → KeepsWhole sets s → IsFreeInCore parts (both_orders core) s (set.difference (union_of sets) s) d → {x y : ℕ}
      → ((p : ℕ) → IsOfNode nodes x p → Has s p) → Reaches (LeadsBetween parts nodes core d) x y → (q : ℕ) → IsOfNode nodes y q → Has s q
  stays_in s d whole free has here = has
  stays_in s d whole free {x} has (along y l rest) =
      let lt = to_few d x y l in
      let next : Has s l.pair.b = ⊎_elim {C = Has s l.pair.b} (λ h. h)
      (λ out. absurd (free l.pair (to_both core l.pair l.listed) (has l.pair.a l.from) ((has-difference (union_of sets) s l.pair.b).1 (in_union y l.pair.b lt l.to, out)) l.meets))
      (member_or s l.pair.b) in
      stays_in s d whole free (λ q of_q. whole_node s y l.pair.b q whole lt l.to next of_q) rest

  few_place : (k : ℕ) (s : PartSet) → slice_get sets k ≡ Some s → k < count
  few_place k s is = let lt = place_within sets k s is in let long = are.number in omega (arith, lt, long)

  -- where each node reaches each other one, no side that keeps each whole is free
  strong_holds : (d : V3) → AllReach count (LeadsBetween parts nodes core d) → HoldsNodes parts (both_orders core) sets d
  strong_holds d all s side whole free =
      let (p, in_s) = side.nonempty in
      let (k, (t, is, in_t)) = union_has sets p (side.within p in_s) in
      let k_lt = few_place k t is in
      let of_p = (are.members k p t is).0 in_t in
      let begin : (q : ℕ) → IsOfNode nodes k q → Has s q = λ q of_q. whole_node s k p q whole k_lt of_p in_s of_q in
      side.proper (same_members s (union_of sets) side.within (λ q in_all.
      let (m, (u, is_m, in_u)) = union_has sets q in_all in
      stays_in s d whole free begin (all k m k_lt (few_place m u is_m)) q ((are.members m q u is_m).0 in_u)))

  module _ (each : All IsPart parts) (held : JoinsNodes parts nodes count core) where
    holds : (d : V3) → d ≢ origin → HoldsNodes parts (both_orders core) sets d
    holds d moves s side whole free =
        let planes = planes_of parts core in
        let has = has_planes parts core in
        let (v, c) = corner_towards planes d (have_axes parts core) moves in
        let strong = held_at parts nodes count core c.g c.h v held (planes_are parts core c.g c.g_in) (planes_are parts core c.h c.h_in) c.independent c.is in
        strong_holds v strong s side whole (λ arc listed a_in b_in m. free arc listed a_in b_in (meets_towards parts (both_orders core) planes d v arc each has c.towards listed m))

    pub held_stick : AreNodes parts sets → IsStuck parts (union_of sets)
    held_stick nodes_are = nodes_stuck_lemma parts (both_orders core) sets (planes_of parts core) each nodes_are (has_planes parts core) (λ v vertex. holds v vertex.moves)
