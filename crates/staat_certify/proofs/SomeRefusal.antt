-- A set that is stuck has a certificate in each version.
use Rattle.std.specs.FinSet as set
use Rattle.staat_model.specs.declared.certificate.Body.TheVariants as body
use Rattle.std.proofs.Common.{◌≡◌, ◌≢◌, ◌⊎◌, ◌∙◌, inl, inr, ⊎_elim, ℕ, zero, suc, append_assoc, append-nil, ◌+◌, ◌≤◌, arith, refl, sym, ap, subst, pos, ◌<ℤ◌, List, [], ◌∷◌, ◌++◌, length, map, All, Contains}
use Rattle.std.specs.Prelude.{Some, slice_get}
use Rattle.std.proofs.lemmas.List.Elements.{All-contains}
use Rattle.staat_vec.specs.declared.vector.V3.{V3}
use Rattle.staat_vec.specs.Lists.{Lists}
use Rattle.staat_vec.specs.Primitives.{IsCanon, first_nonzero}
use Rattle.staat_vec.specs.Vectors.{dot, origin, vector_cmp}
use Rattle.staat_vec.proofs.Unique.{Contains-front, Contains-later}
use Rattle.staat_vec.proofs.VectorOrder.{vector_exact, vector_total}
use Rattle.staat_model.specs.declared.assembly.Part.{Part}
use Rattle.staat_model.specs.declared.certificate.Arc.{Arc}
use Rattle.staat_model.specs.declared.certificate.Certificate.{Certificate}
use Rattle.staat_model.specs.declared.certificate.Dir.{Dir}
use Rattle.staat_model.specs.declared.certificate.Witness.{Witness}
use Rattle.staat_model.specs.declared.set.PartSet.{PartSet}
use Rattle.staat_model.specs.Assemblies.{IsAssembly}
use Rattle.staat_model.specs.Bridges.{Back, IsNextBridge, IsTree, swapped}
use Rattle.staat_model.specs.Certificates.{arc_cmp, inward, outward}
use Rattle.staat_model.specs.Certify.{IsCertificateOf, IsDirection, IsLeastArc, IsWitnessAt}
use Rattle.staat_model.specs.Facets.{IsFacet}
use Rattle.staat_model.specs.Meeting.{Meets}
use Rattle.staat_model.specs.Outcomes.{stuck}
use Rattle.staat_model.specs.Planes.{vertices}
use Rattle.staat_model.specs.Plans.{IsStuck}
use Rattle.staat_model.specs.Removal.{Blocks, MeetsAlong}
use Rattle.staat_model.specs.Sets.{Has, IsLeastOf, IsSubset, single}
use Rattle.staat_model.proofs.Decisions.{Decided, all_decided, all_or, below_or, both_or, carried, equal_or, least_or, less_or, nat_or, not_or}
use Rattle.staat_model.proofs.FirstUse.{IsDistinct}
use Rattle.staat_model.proofs.FreeSides.{member_or, subset_or}
use Rattle.staat_model.proofs.GraphLemmas.{at_pieces}
use Rattle.staat_model.proofs.Listings.{Listing, listing_and, listing_as, listing_members, listing_sorted}
use Rattle.staat_model.proofs.Members.{All-from_members}
use Rattle.staat_model.proofs.Orders.{arc_exact, arc_total}
use Rattle.staat_model.proofs.PieceFacets.{meets_by_facets_lemma}
use Rattle.staat_model.proofs.PlaneLemmas.{planes_apart}
use Rattle.staat_model.proofs.Places.{place_within}
use Rattle.staat_model.proofs.SetMembers.{has-difference, has-insert, has-single}
use Rattle.staat_model.proofs.SetSizes.{len_more}
use Rattle.staat_model.proofs.SetWords.{same_members}
use Rattle.staat_model.proofs.SomePlanes.{arcs_listing, facets_listing, holds_or, some_planes}
use Rattle.staat_graph.specs.Graphs.{IsShut, Walks, here}
use Rattle.staat_graph.proofs.Finite.{same_by_len, some_least, some_or_none}
use Rattle.staat_graph.proofs.Reaching.{reach_of}
use Rattle.staat_graph.proofs.Walking.{reach_shut, stays, turned, walk_ends}
use Rattle.staat_certify.specs.WitnessListings.{IsNumberOf}
use Rattle.staat_certify.proofs.WitnessLemmas.{IsLink, more_within, root_within, tree_links}
use Rattle.staat_certify.proofs.ListedLemmas.{line_pushed, listed_more, HasLines, no_lines, refusal_listed}
use Rattle.staat_certify.proofs.SomeCertificate.{chosen}
use Rattle.staat_certify.proofs.SomeMember.{some_member}
use Rattle.staat_vec.proofs.Naturals.{le_from_not_lt}
use Rattle.staat_model.proofs.ListedVertices.{vertex_some}
use Rattle.staat_model.proofs.PlanLemmas.{piece_within}
use Rattle.staat_vec.proofs.ListLaws.{All-at, push_cases, push_end}

-- ---- trees in a graph whose arcs can be tested

least_number : (P : ℕ → Type 0) → ((k : ℕ) → Decided (P k)) → (q : ℕ) → P q → (k : ℕ) × P k × ((j : ℕ) → P j → k ≤ j)
least_number P dec q p = elim (below_or P dec (suc q)) [
  | inl t ↦ (t.0, t.2, λ j h. le_from_not_lt t.0 j (λ less. t.3 j less h))
  | inr none ↦ absurd (none q (omega arith) p)
]

module _ (R : ℕ → ℕ → Type 0) (dec : (a b : ℕ) → Decided (R a b)) (w : PartSet) where
  -- an arc leads from s to the part
  abbrev IsEntered : PartSet → ℕ → Type 0
  IsEntered s t = (f : ℕ) × Has s f × R f t

  -- the part is new, and can be reached next
  abbrev IsReachable : PartSet → ℕ → Type 0
  IsReachable s t = Has w t × ((Has s t → ⊥) × IsEntered s t)

  reachable_or : (s : PartSet) (t : ℕ) → Decided (IsReachable s t)
  reachable_or s t = both_or (member_or w t) (both_or (not_or (member_or s t)) (elim (some_or_none (λ f. R f t) (λ f. dec f t) s) [
    | inl h ↦ inl h
    | inr none ↦ inr (λ h. none h.0 h.1 h.2)
  ]))

  next_bridge : (s : PartSet) (q : ℕ) → IsReachable s q → (f : ℕ) × (t : ℕ) × IsNextBridge R w s f t
  next_bridge s q h =
      let (t, reachable, least_t) = least_number (IsReachable s) (reachable_or s) q h in
      let (f0, f0_in, f0_arc) = reachable.1.1 in
      let (f, is, least_f) = least_number (λ f. Has s f × R f t) (λ f. both_or (member_or s f) (dec f t)) f0 (f0_in, f0_arc) in (
        f,
        t,
        record {
          is = record { from_in = is.0; to_in = reachable.0; to_new = reachable.1.0; arc = is.1 };
          least_to = λ g u b. least_t u (b.to_in, (b.to_new, (g, b.from_in, b.arc)));
          least_from = λ g b. least_f g (b.from_in, b.arc);
        },
      )

  module _ (root : ℕ) (walks : (q : ℕ) → Has w q → Walks R w root q) where
    abbrev HasTree : PartSet → Type 0
    HasTree s = (pairs : List (ℕ × ℕ)) × IsTree R w s pairs

    grown : (s : PartSet) → Has s root → IsSubset s w → ((q : ℕ) → (Has s q → ⊥) → Has w q → HasTree (set.insert s q))
        → ((q : ℕ) × Has w q × IsReachable s q) ⊎ ((q : ℕ) → Has w q → IsReachable s q → ⊥) → HasTree s
    grown s own within next (inl (q, q_in, h)) =
        let (f, t, bridge) = next_bridge s q h in
        let (pairs, tree) = next t bridge.is.to_new bridge.is.to_in in
        ((f, t) ∷ pairs, (bridge, tree))
    grown s own within next (inr none) =
        let shut : IsShut R w s = λ a b ha hb arc. ⊎_elim {C = Has s b} (λ h. h) (λ out. absurd (none b hb (hb, (out, (a, ha, arc))))) (member_or s b) in
        ([], same_members s w within (λ q h. stays s shut own (walks q h)))

    tree_from : (n : ℕ) (s : PartSet) → set.len w ≤ set.len s + n → Has s root → IsSubset s w → HasTree s
    tree_from zero s le own within = ([], same_by_len s w within (omega (arith, le)))
    tree_from (suc n) s le own within = grown s own within
        (λ q new q_in.
        let longer = len_more s q new in
        tree_from n (set.insert s q) (omega (arith, le, longer)) ((has-insert s q root).1 (inr own)) (more_within w s q within q_in))
        (some_or_none (IsReachable s) (reachable_or s) w)

    -- where walks lead from a part to each other, there is a tree
    pub some_tree : Has w root → HasTree (single root)
    some_tree h = tree_from (set.len w) (single root) (omega arith) ((has-single root root).1 refl) (λ q m. subst (Has w) (sym ((has-single root q).0 m)) h)

-- ---- arcs that block along a direction

module _ (parts : List Part) (is : IsAssembly parts) (d : V3) where
  abbrev AreAhead : List V3 → List V3 → Type 0
  AreAhead p q = (n : V3) → IsFacet p q n → pos 0 <ℤ dot n d

  ahead_or : (p q : List V3) → Listing (IsFacet p q) → Decided (AreAhead p q)
  ahead_or p q t = carried (λ all n f. All-contains (λ n. pos 0 <ℤ dot n d) t.xs n all (t.all n f)) (λ h. All-from_members (λ n. pos 0 <ℤ dot n d) t.xs (λ n c. h n (t.from n c)))
      (all_decided (λ n. pos 0 <ℤ dot n d) (λ n. less_or (pos 0) (dot n d)) t.xs)

  meets_or : (arc : Arc) → Decided (MeetsAlong parts d arc)
  meets_or arc = carried
      (λ h. at_pieces parts arc AreAhead (λ p q. Meets p q d) is.each (λ p q p_is q_is is_p is_q all. (meets_by_facets_lemma p q d is_p is_q).1 all) h)
      (λ h. at_pieces parts arc (λ p q. Meets p q d) AreAhead is.each (λ p q p_is q_is is_p is_q meets. (meets_by_facets_lemma p q d is_p is_q).0 meets) h)
      (holds_or parts arc AreAhead (λ p q. ahead_or p q (facets_listing p q)))

  -- a piece of a meets one of b
  abbrev IsBetween : ℕ → ℕ → Arc → Type 0
  IsBetween a b arc = (arc.a ≡ a) × (arc.b ≡ b) × MeetsAlong parts d arc

  between_or : (a b : ℕ) (arc : Arc) → Decided (IsBetween a b arc)
  between_or a b arc = carried (λ (h : (arc.a ≡ a) × ((arc.b ≡ b) × MeetsAlong parts d arc)). (h.0, h.1.0, h.1.1)) (λ (h : IsBetween a b arc). (h.0, (h.1, h.2)))
      (both_or (nat_or arc.a a) (both_or (nat_or arc.b b) (meets_or arc)))

  listed : (a b : ℕ) (arc : Arc) → IsBetween a b arc → Contains (arcs_listing parts (single a) (single b)).xs arc
  listed a b arc h = (arcs_listing parts (single a) (single b)).all arc (record {
    a_in = (has-single a arc.a).1 h.0;
    b_in = (has-single b arc.b).1 h.1;
    i_in = piece_within parts arc.a arc.i h.2.p h.2.p_is;
    j_in = piece_within parts arc.b arc.j h.2.q h.2.q_is;
  })

  -- the arc with these ends and the first pieces that meet
  abbrev HasArcFor : (Arc → ℕ × ℕ) → ℕ × ℕ → Type 0
  HasArcFor f x = (arc : Arc) × (f arc ≡ x) × IsLeastArc parts d arc

  least_between : (a b : ℕ) → HasArcFor outward (a, b) ⊎ ((arc : Arc) → IsBetween a b arc → ⊥)
  least_between a b = elim (least_or arc_cmp arc_total arc_exact (IsBetween a b) (between_or a b) (arcs_listing parts (single a) (single b)).xs) [
    | inl t ↦ inl (
      t.x,
      (λ z. (t.has.0 z, t.has.1 z)),
      record {
        has = (refl, refl, t.has.2);
        least = λ y p. let between : IsBetween a b y = (p.0 ∙ t.has.0, p.1 ∙ t.has.1, p.2) in t.least y (listed a b y between) between;
      },
    )
    | inr none ↦ inr (λ arc h. none arc (listed a b arc h) h)
  ]

  pub blocks_or : (a b : ℕ) → Decided (Blocks parts d a b)
  blocks_or a b = elim (nat_or a b) [
    | inl e ↦ inr (λ h. h.different e)
    | inr ne ↦ (elim (least_between a b) [
      | inl t ↦ inl (record { i = t.0.i; j = t.0.j; different = ne; meets = subst (MeetsAlong parts d) (λ z. record { a = (t.1 z).0; i = t.0.i; b = (t.1 z).1; j = t.0.j }) t.2.has.2 })
      | inr none ↦ inr (λ h. none (record { a = a; i = h.i; b = b; j = h.j }) (refl, refl, h.meets))
    ])
  ]

  some_least_arc : (a b : ℕ) → Blocks parts d a b → HasArcFor outward (a, b)
  some_least_arc a b h = elim (least_between a b) [
    | inl t ↦ t
    | inr none ↦ absurd (none (record { a = a; i = h.i; b = b; j = h.j }) (refl, refl, h.meets))
  ]

  -- ---- the witness that a set is stuck

  module _ (w : PartSet) (held : IsStuck parts w) (moves : d ≢ origin) where
    -- what a part reaches is the whole set, since it would be free of the rest
    reaches : (a : ℕ) → Has w a → (q : ℕ) → Has w q → Walks (Blocks parts d) w a q
    reaches a a_in q q_in =
        let (r, out) = reach_of (Blocks parts d) blocks_or w a a_in in
        let within : IsSubset r w = λ p h. walk_ends (out.walks p h) in
        ⊎_elim (λ all. out.walks q (all q q_in))
        (λ more. absurd (held.held r d
        (record {
          nonempty = (a, out.all a (here a_in));
          within = within;
          proper = λ e. more (λ p h. subst (λ (z : PartSet). Has z p) (sym e) h);
        })
        (record {
          moves = moves;
          clear = λ arc a_has b_has meets.
              let b = (has-difference w r arc.b).0 b_has in
              b.1 (reach_shut (Blocks parts d) w a r out arc.a arc.b a_has b.0 (record { i = arc.i; j = arc.j; different = λ e. b.1 (subst (Has r) e a_has); meets = meets }));
        })))
        (subset_or w r)

    -- the arcs of a tree, each with the first pieces
    abbrev HasArcs : (ℕ → ℕ → Type 0) → (Arc → ℕ × ℕ) → ℕ → Type 0
    HasArcs R f root = (arcs : List Arc) × IsTree R w (single root) (map f arcs) × All (IsLeastArc parts d) arcs

    arcs_along : (R : ℕ → ℕ → Type 0) (f : Arc → ℕ × ℕ) → ((x : ℕ × ℕ) → R x.0 x.1 → HasArcFor f x) → ((a b : ℕ) → Decided (R a b)) → (root : ℕ) → IsLeastOf w root
        → ((q : ℕ) → Has w q → Walks R w root q) → HasArcs R f root
    arcs_along R f first dec root root_is walks =
        let (pairs, tree) = some_tree R dec w root walks root_is.has in
        let links = tree_links R w (single root) pairs (root_within w root root_is) tree in
        let (arcs, are, least) = chosen f (IsLeastArc parts d) pairs (λ x c. first x (All-contains (IsLink R w) pairs x links c).arc) in
        (arcs, subst (IsTree R w (single root)) (sym are) tree, least)

    pub some_witness : (x : Witness) × IsWitnessAt parts w d x
    some_witness =
        let (p, p_in) = some_member w (let two = held.two in omega (arith, two)) in
        let (root, root_is) = some_least w p p_in in
        let (outs, out_tree, outs_least) = arcs_along (Blocks parts d) outward (λ x h. some_least_arc x.0 x.1 h) blocks_or root root_is (λ q h. reaches root root_is.has q h) in
        let (ins, in_tree, ins_least) = arcs_along (Back (Blocks parts d)) inward (λ x h. let (arc, ends, least) = some_least_arc x.1 x.0 h in (arc, ap swapped ends, least)) (λ a b. blocks_or b a) root root_is
        (λ q h. turned (reaches q h root root_is.has)) in (
          record { outs = outs; ins = ins },
          record { root = root; root_is = root_is; outs = out_tree; ins = in_tree; outs_least = outs_least; ins_least = ins_least },
        )

-- ---- witnesses that are told apart

lists_or : {X : Type 0} → ((x y : X) → Decided (x ≡ y)) → (xs ys : List X) → Decided (xs ≡ ys)
lists_or dec [] [] = inl refl
lists_or dec [] (y ∷ ys) = inr (λ e. cc)
lists_or dec (x ∷ xs) [] = inr (λ e. cc)
lists_or dec (x ∷ xs) (y ∷ ys) = carried (λ h z. h.0 z ∷ h.1 z) (λ e. ((let a : x ≡ y = cc in a), (let b : xs ≡ ys = cc in b))) (both_or (dec x y) (lists_or dec xs ys))

witness_or : (x y : Witness) → Decided (x ≡ y)
witness_or x y = carried (λ h k. record { outs = h.0 k; ins = h.1 k }) (λ e. (ap (λ z. z.outs) e, ap (λ z. z.ins) e)) (both_or (lists_or (equal_or arc_cmp arc_total arc_exact) x.outs y.outs) (lists_or (equal_or arc_cmp arc_total arc_exact) x.ins y.ins))

place_or : (xs : List Witness) (x : Witness) → ((k : ℕ) × (slice_get xs k ≡ Some x)) ⊎ ((k : ℕ) → slice_get xs k ≡ Some x → ⊥)
place_or xs x = elim (all_or (λ y. y ≡ x → ⊥) (λ y. not_or (witness_or y x)) xs) [
  | inl all ↦ inr (λ k at. All-at (λ y. y ≡ x → ⊥) xs k x at all refl)
  | inr t ↦ (elim (witness_or t.1.x x) [
    | inl e ↦ inl (t.0, t.1.at ∙ ap Some e)
    | inr ne ↦ absurd (t.1.fails ne)
  ])
]

one_more_apart : (xs : List Witness) (x : Witness) → IsDistinct xs → ((k : ℕ) → slice_get xs k ≡ Some x → ⊥) → IsDistinct (xs ++ x ∷ [])
one_more_apart xs x apart new k m y a b = go (push_cases xs x y k a) (push_cases xs x y m b)
  where
    go : (slice_get xs k ≡ Some y) ⊎ ((k ≡ length xs) × (x ≡ y)) → (slice_get xs m ≡ Some y) ⊎ ((m ≡ length xs) × (x ≡ y)) → k ≡ m
    go (inl c) (inl d) = apart k m y c d
    go (inl c) (inr d) = absurd (new k (c ∙ ap Some (sym d.1)))
    go (inr c) (inl d) = absurd (new m (d ∙ ap Some (sym c.1)))
    go (inr c) (inr d) = c.0 ∙ sym d.0

-- ---- the lines of a refusal

module _ (parts : List Part) (w : PartSet) where
  -- the directions have lines, and the witnesses that these name are different
  record Numbered (ds : List V3) : Type 0 where
    witnesses : List Witness
    dirs : List Dir
    lines : HasLines parts w witnesses dirs ds
    apart : IsDistinct witnesses

  line_with : (ds : List V3) (d : V3) (x : Witness) (now : List Witness) (i : ℕ) (t : Numbered ds) → IsWitnessAt parts w d x → IsNumberOf t.witnesses now x i → IsDistinct now → Numbered (ds ++ d ∷ [])
  line_with ds d x now i t at number apart =
      let next : List Dir = t.dirs ++ (record { d = d; witness = i }) ∷ [] in
      record {
        witnesses = now;
        dirs = next;
        lines = record {
          listed = listed_more parts w t.witnesses now x i number t.dirs next d t.lines.listed at refl;
          lines = line_pushed t.dirs next d d i refl refl ∙ ap (λ l. l ++ d ∷ []) t.lines.lines;
        };
        apart = apart;
      }

  one_more_line : (ds : List V3) (d : V3) (x : Witness) → IsWitnessAt parts w d x → Numbered ds → Numbered (ds ++ d ∷ [])
  one_more_line ds d x at t = elim (place_or t.witnesses x) [
    | inl h ↦ line_with ds d x t.witnesses h.0 t at (record { which = inl (refl, place_within t.witnesses h.0 x h.1); at = h.1 }) t.apart
    | inr new ↦ line_with ds d x (t.witnesses ++ x ∷ []) (length t.witnesses) t at (record { which = inr (refl, refl); at = push_end t.witnesses x }) (one_more_apart t.witnesses x t.apart new)
  ]

  more_lines : (before ds : List V3) → ((d : V3) → Contains ds d → (x : Witness) × IsWitnessAt parts w d x) → Numbered before → Numbered (before ++ ds)
  more_lines before [] each t = subst Numbered (sym (append-nil before)) t
  more_lines before (d ∷ ds) each t =
      let (x, at) = each d (Contains-front d ds) in
      subst Numbered (append_assoc before (d ∷ []) ds) (more_lines (before ++ d ∷ []) ds (λ e c. each e (Contains-later d ds e c)) (one_more_line before d x at t))

  all_lines : (ds : List V3) → ((d : V3) → Contains ds d → (x : Witness) × IsWitnessAt parts w d x) → Numbered ds
  all_lines ds each = more_lines [] ds each (record { witnesses = []; dirs = []; lines = no_lines parts w [] [] refl refl; apart = λ k m x a b. cc })

-- ---- the directions

some_directions : (version : ℕ) (planes : List V3) → (ds : List V3) × Lists vector_cmp (IsDirection version planes) ds
some_directions version planes = listing_sorted vector_cmp vector_total vector_exact
    (listing_as (λ d h. record { vertex = h.0; canonical = h.1 }) (λ d h. (h.vertex, h.canonical))
    (listing_and (λ d. version ≡ 2 → IsCanon d) canonical_or (listing_members (vertices planes))))
  where
    canonical_or : (d : V3) → Decided (version ≡ 2 → IsCanon d)
    canonical_or d = elim (nat_or version 2) [
      | inl two ↦ carried (λ canon e. canon) (λ h. h two) (less_or (pos 0) (first_nonzero d))
      | inr other ↦ inl (λ e. absurd (other e))
    ]

-- ---- the certificate

pub some_refusal_certificate : (parts : List Part) (version : ℕ) (w : PartSet) → IsAssembly parts → IsStuck parts w → (c : Certificate) × IsCertificateOf parts version (stuck w) c
some_refusal_certificate parts version w is held =
    let (planes, planes_are) = some_planes parts w in
    let (ds, directions) = some_directions version planes in
    let apart = planes_apart parts w planes planes_are in
    let t = all_lines parts w ds (λ d c. some_witness parts is d w held (vertex_some planes d apart (directions.each d c).vertex)) in (
      record { version = version; parts = length parts; body = body.Stuck w t.witnesses t.dirs },
      record {
        version_is = refl;
        count = refl;
        body = (refl, refusal_listed parts version w planes ds t.witnesses t.dirs planes_are directions t.apart t.lines.listed t.lines.lines);
      },
    )
