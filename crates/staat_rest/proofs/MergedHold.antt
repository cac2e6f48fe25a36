-- A hold of merged parts is one of the nodes that they stand for.
use Rattle.std.proofs.Common.{◌≡◌, ◌⊎◌, ℕ, ◌+◌, ◌<◌, ◌≤◌, List, length, get_or, map, inl, inr, ⊎_elim, sym, ap, subst, ◌∙◌, arith, All, Contains}
use Rattle.std.specs.Prelude.{Option, Some, option_map, slice_get, unwrap_or}
use Rattle.std.specs.List.Sorted.{IsStrictlySortedBy}
use Rattle.std.specs.Ordering.{nat_cmp}
use Rattle.std.proofs.lemmas.List.{get_or-map, length-map}
use Rattle.std.proofs.lemmas.List.Elements.{All-contains, All-get_or}
use Rattle.std.proofs.lemmas.Map.Keys.{below_from_sorted, sorted_from_strictly_increasing}
use Rattle.std.proofs.lemmas.Option.{get_or_from_slice_get, slice_get-get_or}
use Rattle.staat_vec.specs.declared.vector.V3.{V3}
use Rattle.staat_model.specs.declared.assembly.Part.{Part}
use Rattle.staat_model.specs.declared.certificate.Arc.{Arc}
use Rattle.staat_model.specs.Assemblies.{HoldsAt, piece_at, piece_count}
use Rattle.staat_model.specs.Facets.{IsFacet}
use Rattle.staat_model.specs.Meeting.{Meets}
use Rattle.staat_model.proofs.Members.{All-from_members}
use Rattle.staat_model.proofs.Places.{some_at}
use Rattle.staat_motion.specs.Motions.{HasBothPieces, turned}
use Rattle.staat_holds.specs.declared.hold.Hold.{Hold}
use Rattle.staat_holds.specs.Chains.{IsHoldPair, IsName, KeepsHoldRules, own_names, places_of}
use Rattle.staat_holds.specs.Holds.{HasPair, IsCorePair, IsHoldPlane, IsOfNode, JoinsNodes, LeadsBetween}
use Rattle.staat_holds.proofs.NodeNames.{of_place}
use Rattle.staat_holds.proofs.LinkLemmas.{same_node}
use Rattle.staat_holds.proofs.ReachLemmas.{carried}
use Rattle.staat_decide.specs.Decided.{IsStuckHold}
use Rattle.staat_decide.proofs.Holdings.{own_of}
use Rattle.staat_rest.specs.declared.merging.Origin.{Origin}
use Rattle.staat_rest.specs.Merging.{AreMerged, origin_at}
use Rattle.staat_rest.specs.Nodes.{NamesOnly}
use Rattle.staat_rest.specs.Turning.{HasOrigins, original_hold, original_nodes, original_pair}
use Rattle.staat_rest.proofs.MergedPieces.{IsOrigin, merged_count, origin_is, piece_from}
use Rattle.staat_vec.proofs.Unique.{from_place}
use Rattle.staat_vec.proofs.ListLaws.{place_of, map_at_place, place_in_map}
use Rattle.staat_vec.proofs.Options.{some_injective}
use Rattle.staat_model.proofs.PlanLemmas.{piece_within, part_within}

-- the pieces of a pair that exist
piece_there : (parts : List Part) (a i : ℕ) → a < length parts → i < piece_count parts a → (p : List V3) × (piece_at parts a i ≡ Some p)
piece_there parts a i lt i_lt =
    let (part, at) = some_at parts a lt in
    let count : piece_count parts a ≡ length part.pieces = ap (λ (o : Option Part). unwrap_or (option_map (λ (q : Part). length q.pieces) o) 0) at in
    let (p, p_at) = some_at part.pieces i (omega (arith, i_lt, count)) in
    (p, piece_from parts a i part p at p_at)

module _ (parts : List Part) (names heads : List ℕ) (origins : List (List Origin)) (merged : List Part) (are : AreMerged parts names heads origins merged)
    (hold : Hold) (stuck : IsStuckHold merged hold) where
  abbrev ns : List ℕ
  ns = original_nodes heads hold.nodes

  abbrev pairs : List Arc
  pairs = map (original_pair origins) hold.pairs

  abbrev old : List (Option ℕ)
  old = places_of hold.nodes (own_names (length merged))

  pub nodes_within : All (λ k. k < length heads) hold.nodes
  nodes_within = subst (λ n. All (λ k. k < n) hold.nodes) (merged_count parts names heads origins merged are) stuck.within

  -- the node at a place
  node_at : (x k : ℕ) → slice_get hold.nodes x ≡ Some k → slice_get ns x ≡ Some (get_or heads k 0)
  node_at x k at = map_at_place (λ m. get_or heads m 0) hold.nodes x k at

  pub nodes_ascend : IsStrictlySortedBy nat_cmp ns
  nodes_ascend = sorted_from_strictly_increasing ns (λ j lt.
      let long = length-map hold.nodes (λ m. get_or heads m 0) in
      let j_lt : j < length hold.nodes = omega (arith, lt, long) in
      let next_lt : j + 1 < length hold.nodes = omega (arith, lt, long) in
      let less = below_from_sorted hold.nodes j (j + 1) 0 stuck.nodes_are.ascending (omega arith) next_lt in
      let within = All-get_or (λ k. k < length heads) hold.nodes (j + 1) 0 next_lt nodes_within in
      let up = below_from_sorted heads (get_or hold.nodes j 0) (get_or hold.nodes (j + 1) 0) 0 are.heads_are.ascending less within in
      let e = get_or-map (λ m. get_or heads m 0) hold.nodes j 0 0 j_lt in
      let f = get_or-map (λ m. get_or heads m 0) hold.nodes (j + 1) 0 0 next_lt in
      omega (arith, up, e, f))

  pub nodes_named : All (IsName names) ns
  nodes_named = All-from_members (IsName names) ns (λ n c.
      let (x, at) = place_of ns n c in
      let (k, k_at, is) = place_in_map (λ m. get_or heads m 0) hold.nodes x n at in
      let lt = All-contains (λ m. m < length heads) hold.nodes k nodes_within (from_place hold.nodes x k k_at) in
      subst (IsName names) is (are.heads_are.each (get_or heads k 0) (from_place heads k (get_or heads k 0) (slice_get-get_or heads k 0 lt))))

  pub nodes_two : 2 ≤ length ns
  nodes_two = let two = stuck.keeps.two in let long = length-map hold.nodes (λ m. get_or heads m 0) in omega (arith, two, long)

  origin : (a i : ℕ) (p : List V3) → piece_at merged a i ≡ Some p → IsOrigin parts names heads origins a i p
  origin = origin_is parts names heads origins merged are

  pair_pieces : (pair : Arc) → HasBothPieces merged pair → ((p : List V3) × (piece_at merged pair.a pair.i ≡ Some p)) × ((q : List V3) × (piece_at merged pair.b pair.j ≡ Some q))
  pair_pieces pair h = (piece_there merged pair.a pair.i h.a_in h.i_in, piece_there merged pair.b pair.j h.b_in h.j_in)

  has_origins : (pair : Arc) → HasBothPieces merged pair → HasOrigins origins pair
  has_origins pair h =
      let ((p, p_is), (q, q_is)) = pair_pieces pair h in
      let first = origin pair.a pair.i p p_is in
      let second = origin pair.b pair.j q q_is in record { a_in = first.a_in; i_in = first.i_in; b_in = second.a_in; j_in = second.i_in }

  pub pairs_have : All (HasOrigins origins) hold.pairs
  pairs_have = All-from_members (HasOrigins origins) hold.pairs (λ pair c.
      has_origins pair (All-contains (IsHoldPair merged (own_names (length merged)) hold.nodes) hold.pairs pair stuck.keeps.pairs c).pieces)

  -- what holds of the pieces that a pair was, holds of its own
  back_at : (R : List V3 → List V3 → Type 0) (pair : Arc) → HasBothPieces merged pair → HoldsAt parts (original_pair origins pair) R → HoldsAt merged pair R
  back_at R pair there h =
      let ((p, p_is), (q, q_is)) = pair_pieces pair there in
      let first = origin pair.a pair.i p p_is in
      let second = origin pair.b pair.j q q_is in
      let same_p : h.p ≡ p = some_injective h.p p (sym h.p_is ∙ first.is) in
      let same_q : h.q ≡ q = some_injective h.q q (sym h.q_is ∙ second.is) in
      record { p = p; q = q; p_is = p_is; q_is = q_is; holds = subst (λ z. R p z) same_q (subst (λ z. R z h.q) same_p h.holds) }

  to_original : (R : List V3 → List V3 → Type 0) (pair : Arc) → HoldsAt merged pair R → HoldsAt parts (original_pair origins pair) R
  to_original R pair h = record {
    p = h.p;
    q = h.q;
    p_is = (origin pair.a pair.i h.p h.p_is).is;
    q_is = (origin pair.b pair.j h.q h.q_is).is;
    holds = h.holds;
  }

  -- a plane of the pairs is one of the merged pairs
  plane_back : (n : V3) → IsHoldPlane parts pairs n → IsHoldPlane merged hold.pairs n
  plane_back n plane = ⊎_elim {C = IsHoldPlane merged hold.pairs n} (λ axis. inl axis)
      (λ core.
      let (k, at) = place_of pairs core.arc core.listed in
      let (pair, pair_at, is) = place_in_map (original_pair origins) hold.pairs k core.arc at in
      let c = from_place hold.pairs k pair pair_at in
      let there = (All-contains (IsHoldPair merged (own_names (length merged)) hold.nodes) hold.pairs pair stuck.keeps.pairs c).pieces in
      let holds = subst (λ (arc : Arc). HoldsAt parts arc (λ p q. IsFacet p q core.facet)) (sym is) core.holds in
      inr (record { arc = pair; facet = core.facet; listed = c; holds = back_at (λ p q. IsFacet p q core.facet) pair there holds; is = core.is })) plane

  listed_original : (pair : Arc) → HasPair hold.pairs pair → HasPair pairs (original_pair origins pair)
  listed_original pair has = ⊎_elim {C = HasPair pairs (original_pair origins pair)}
      (λ c. inl (in_map pair c)) (λ c. inr (in_map (turned pair) c)) has
    where
      in_map : (arc : Arc) → Contains hold.pairs arc → Contains pairs (original_pair origins arc)
      in_map arc c =
          let (k, at) = place_of hold.pairs arc c in
          from_place pairs k (original_pair origins arc) (map_at_place (original_pair origins) hold.pairs k arc at)

  module _ (now : List ℕ) (only : NamesOnly names ns now) where
    abbrev new : List (Option ℕ)
    new = places_of ns now

    -- the origin of a piece of a merged part is of the node that this stands for
    place_new : (x a i : ℕ) (p : List V3) → piece_at merged a i ≡ Some p → IsOfNode old x a → IsOfNode new x ((origin_at origins a i).part)
    place_new x a i p e h =
        let o = origin a i p e in
        let at = own_of hold.nodes (length merged) x a h in
        let is : get_or heads a 0 ≡ o.head = get_or_from_slice_get heads a o.head 0 o.head_is in
        let here_is : slice_get ns x ≡ Some o.head = node_at x a at ∙ ap Some is in
        (of_place ns now x o.head ((origin_at origins a i).part) nodes_ascend here_is).1 (only.joined ((origin_at origins a i).part) o.head o.of (from_place ns x o.head here_is))

    -- and it is of no other
    one_place : (x y a i : ℕ) (p : List V3) → piece_at merged a i ≡ Some p → IsOfNode old x a → IsOfNode new y ((origin_at origins a i).part) → x ≡ y
    one_place x y a i p e h g = same_node new ((origin_at origins a i).part) x y (place_new x a i p e h) g

    pair_new : (pair : Arc) → IsCorePair merged old (length hold.nodes) pair → IsCorePair parts new (length ns) (original_pair origins pair)
    pair_new pair c =
        let ((p, p_is), (q, q_is)) = pair_pieces pair c.pieces in
        let first = origin pair.a pair.i p p_is in
        let second = origin pair.b pair.j q q_is in
        let long = length-map hold.nodes (λ m. get_or heads m 0) in
        let x_few = c.first.few in
        let y_few = c.second.few in record {
          pieces = record {
            a_in = part_within parts ((origin_at origins pair.a pair.i).part) ((origin_at origins pair.a pair.i).piece) p first.is;
            i_in = piece_within parts ((origin_at origins pair.a pair.i).part) ((origin_at origins pair.a pair.i).piece) p first.is;
            b_in = part_within parts ((origin_at origins pair.b pair.j).part) ((origin_at origins pair.b pair.j).piece) q second.is;
            j_in = piece_within parts ((origin_at origins pair.b pair.j).part) ((origin_at origins pair.b pair.j).piece) q second.is;
          };
          first = record { node = c.first.node; is = place_new c.first.node pair.a pair.i p p_is c.first.is; few = omega (arith, x_few, long) };
          second = record { node = c.second.node; is = place_new c.second.node pair.b pair.j q q_is c.second.is; few = omega (arith, y_few, long) };
          apart = λ k f s.
              let e = one_place c.first.node k pair.a pair.i p p_is c.first.is f in
              let g = one_place c.second.node k pair.b pair.j q q_is c.second.is s in
              c.apart k (subst (λ m. IsOfNode old m pair.a) e c.first.is) (subst (λ m. IsOfNode old m pair.b) g c.second.is);
        }

    leads_new : (d : V3) (x y : ℕ) → LeadsBetween merged old hold.pairs d x y → LeadsBetween parts new pairs d x y
    leads_new d x y l = record {
      pair = original_pair origins l.pair;
      listed = listed_original l.pair l.listed;
      from = place_new x l.pair.a l.pair.i l.meets.p l.meets.p_is l.from;
      to = place_new y l.pair.b l.pair.j l.meets.q l.meets.q_is l.to;
      meets = to_original (λ p q. Meets p q d) l.pair l.meets;
    }

    joins_new : JoinsNodes parts new (length ns) pairs
    joins_new g h plane_g plane_h apart x y x_lt y_lt =
        let long = length-map hold.nodes (λ m. get_or heads m 0) in
        carried (leads_new _) (stuck.keeps.joins g h (plane_back g plane_g) (plane_back h plane_h) apart x y (omega (arith, x_lt, long)) (omega (arith, y_lt, long)))

    pub hold_keeps : KeepsHoldRules parts now (original_hold heads origins hold)
    hold_keeps = record {
      nodes = All-from_members (IsName now) ns (λ n c. only.joined n n (All-contains (IsName names) ns n nodes_named c) c);
      two = nodes_two;
      pairs = All-from_members (IsHoldPair parts now ns) pairs (λ pair c.
          let (k, at) = place_of pairs pair c in
          let (arc, arc_at, is) = place_in_map (original_pair origins) hold.pairs k pair at in
          subst (IsHoldPair parts now ns) is (pair_new arc (All-contains (IsHoldPair merged (own_names (length merged)) hold.nodes) hold.pairs arc stuck.keeps.pairs (from_place hold.pairs k arc arc_at))));
      joins = joins_new;
    }
