-- A certificate that keeps its form has a verdict: the first rule that it breaks is found, or it is valid.
use Rattle.std.proofs.Common.{◌≡◌, ◌≢◌, ◌⊎◌, ℕ, ◌+◌, ◌<◌, ◌≤◌, pos, ◌<ℤ◌, List, [], ◌∷◌, length, map, All, arith, sym, ◌∙◌, subst, refl, inl, inr}
use Rattle.std.specs.Prelude.{Contains, Option, None, Some, slice_get, sum_by}
use Rattle.std.proofs.lemmas.List.Elements.{All-contains}
use Rattle.std.specs.FinSet as set
use Rattle.staat_vec.specs.declared.vector.V3.{V3}
use Rattle.staat_vec.specs.Vectors.{dot, negative, origin, vector_cmp}
use Rattle.staat_vec.proofs.Unique.{sorted_once}
use Rattle.staat_vec.proofs.VectorOrder.{vector_exact, vector_total}
use Rattle.staat_model.specs.declared.assembly.Part.{Part}
use Rattle.staat_model.specs.declared.set.PartSet.{PartSet}
use Rattle.staat_model.specs.declared.certificate.Arc.{Arc}
use Rattle.staat_model.specs.declared.certificate.Sep.{Sep}
use Rattle.staat_model.specs.declared.certificate.Dir.{Dir}
use Rattle.staat_model.specs.declared.certificate.Node.{Node}
use Rattle.staat_model.specs.declared.certificate.Node.TheVariants.{Leaf, Split}
use Rattle.staat_model.specs.declared.certificate.Witness.{Witness}
use Rattle.staat_model.specs.declared.certificate.Body.{Body}
use Rattle.staat_model.specs.declared.certificate.Body.TheVariants as body
use Rattle.staat_model.specs.declared.certificate.Certificate.{Certificate}
use Rattle.staat_limits.specs.declared.limits.TheConstants.{MOST_PARTS}
use Rattle.staat_model.specs.declared.line.Line.TheVariants as line
use Rattle.staat_model.specs.declared.verdict.Verdict.{Verdict}
use Rattle.staat_model.specs.declared.verdict.Verdict.TheVariants.{ValidPlan, ValidRefusal, Not}
use Rattle.staat_model.specs.declared.verdict.Reason.{Reason}
use Rattle.staat_model.specs.declared.verdict.Reason.TheVariants.{WrongParts, BadLeaves, ZeroDirection, BadSeparator, MissingSeparator, BadStuckSet, BadArc, BadTree, MissingDirection}
use Rattle.staat_model.specs.Certificates.{WalledPlan, nodes_of, arc_cmp, outward, inward, IsAcross, IsWall, SplitsHold, IsLeafAt, AreAllLeaves, PlanHolds, IsStuckSet, IsArcWithin, ReachesAll, IsWitness, IsBlocking, IsBlocked, HasLine, IsListed, RefusalHolds}
use Rattle.staat_model.specs.Assemblies.{piece_count}
use Rattle.staat_model.specs.Facets.{IsFacet}
use Rattle.staat_model.specs.Lines.{IsInBounds}
use Rattle.staat_model.specs.Planes.{vertices}
use Rattle.staat_model.specs.Reasons.{IsBadLeaf, HasMissingLeaf, IsLeafFault, bad_leaf, missing_leaf, IsSplitReason, zero_direction, bad_separator, missing_separator, EntryHolds, IsTreeReason, SplitEntry, first_line, splits_of, IsPlanReason, bad_leaves, bad_split, IsRefusalReason, bad_stuck_set, bad_tree, bad_arc, missing_direction, witness_size, IsBodyReason, IsVerdict}
use Rattle.staat_model.specs.Reasons as reasons
use Rattle.staat_model.specs.Certificates as certificates
use Rattle.staat_model.specs.Sets.{Has, IsLeastOf, IsSubset, below, single}
use Rattle.staat_model.specs.Texts.{IsBodyInOrder, IsNodeInOrder, IsPlanInOrder, IsWellFormed, lines_of}
use Rattle.staat_model.specs.Walls.{IsShown}
use Rattle.staat_model.proofs.Decisions.{Decided, all_decided, all_or, all_or_where, below_or, both_or, carried, contains_or, either_or, first_or, le_or, least_or, less_or, lt_or, nat_or, not_or, some_below}
use Rattle.staat_model.proofs.Differences.{from_map}
use Rattle.staat_model.proofs.FreeSides.{member_or, subset_or}
use Rattle.staat_model.proofs.Listings.{Listing}
use Rattle.staat_model.proofs.Members.{All-from_members}
use Rattle.staat_model.proofs.OneReason.{split_reason_some}
use Rattle.staat_model.proofs.Orders.{arc_exact, arc_total}
use Rattle.staat_model.proofs.Places.{one_at_place, place_within}
use Rattle.staat_model.proofs.SetBits.{has-below}
use Rattle.staat_model.proofs.SetSizes.{len_below}
use Rattle.staat_model.proofs.SetWords.{same_members}
use Rattle.staat_model.proofs.SplitLists.{IsEntryInOrder, entries_in_order, splits_hold}
use Rattle.staat_model.proofs.SomePlanes.{arcs_listing, beyond_or, facets_listing, holds_or, some_planes, vector_or}
use Rattle.staat_vec.proofs.Naturals.{trichotomy}
use Rattle.staat_vec.proofs.Comparisons.{nat_cmp-less}
use Rattle.staat_vec.proofs.ListLaws.{All-at}
use Rattle.staat_model.proofs.PlanLemmas.{same_leaf}

-- ---- leaves

leaf_or : (nodes : List Node) (k : ℕ) → ((p : ℕ) × IsLeafAt nodes k p) ⊎ ((p : ℕ) → IsLeafAt nodes k p → ⊥)
leaf_or nodes k = go (slice_get nodes k) refl
  where
    go : (o : Option Node) → slice_get nodes k ≡ o → ((p : ℕ) × IsLeafAt nodes k p) ⊎ ((p : ℕ) → IsLeafAt nodes k p → ⊥)
    go None e = inr (λ p h. let wrong : None ≡ Some (Leaf p) = sym e ∙ h in cc)
    go (Some (Leaf p)) e = inl (p, e)
    go (Some (Split d seps)) e = inr (λ p h. let wrong : Some (Split d seps) ≡ Some (Leaf p) = sym e ∙ h in cc)

is_leaf_or : (nodes : List Node) (k p : ℕ) → Decided (IsLeafAt nodes k p)
is_leaf_or nodes k p = elim (leaf_or nodes k) [
  | inl at ↦ (elim (nat_or at.0 p) [ inl e ↦ inl (subst (IsLeafAt nodes k) e at.1) | inr ne ↦ inr (λ h. ne (same_leaf at.0 p (sym at.1 ∙ h))) ])
  | inr none ↦ inr (none p)
]

bad_or : (n : ℕ) (nodes : List Node) (k : ℕ) → Decided (IsBadLeaf n nodes k)
bad_or n nodes k = elim (leaf_or nodes k) [
  | inr none ↦ inr (λ bad. none bad.part bad.leaf_is)
  | inl at ↦ carried (λ bad. record { part = at.0; leaf_is = at.1; bad = bad })
      (λ h. subst (λ p. (n ≤ p) ⊎ ((m : ℕ) × (m < k) × IsLeafAt nodes m p)) (same_leaf h.part at.0 (sym h.leaf_is ∙ at.1)) h.bad)
      (either_or {P = n ≤ at.0} (grind arith) (some_below (λ m. IsLeafAt nodes m at.0) (λ m. is_leaf_or nodes m at.0) k))
]

leaf_of : (nodes : List Node) (p : ℕ) → ((k : ℕ) × IsLeafAt nodes k p) ⊎ ((k : ℕ) → IsLeafAt nodes k p → ⊥)
leaf_of nodes p = elim (below_or (λ k. IsLeafAt nodes k p) (λ k. is_leaf_or nodes k p) (length nodes)) [
  | inl t ↦ inl (t.0, t.2)
  | inr none ↦ inr (λ k at. none k (place_within nodes k (Leaf p) at) at)
]

leaves_or : (n : ℕ) (nodes : List Node) → AreAllLeaves n nodes ⊎ ((k : ℕ) × IsLeafFault n nodes k)
leaves_or n nodes = elim (below_or (IsBadLeaf n nodes) (bad_or n nodes) (length nodes)) [
  | inl t ↦ inr (
    t.0,
    bad_leaf (record {
      has = t.2;
      least = λ y bad. elim (lt_or y t.0) [ inl lt ↦ absurd (t.3 y lt bad) | inr ge ↦ elim (nat_or y t.0) [ inl e ↦ inl e | inr ne ↦ inr (nat_cmp-less t.0 y (omega (arith, ge, ne))) ] ];
    }),
  )
  | inr none ↦ with_good (λ k bad. none k (place_within nodes k (Leaf bad.part) bad.leaf_is) bad)
]
  where
    with_good : ((k : ℕ) → IsBadLeaf n nodes k → ⊥) → AreAllLeaves n nodes ⊎ ((k : ℕ) × IsLeafFault n nodes k)
    with_good good = elim (below_or (λ p. (k : ℕ) → IsLeafAt nodes k p → ⊥) (λ p. elim (leaf_of nodes p) [ inl t ↦ inr (λ none. none t.0 t.1) | inr none ↦ inl none ]) n) [
      | inl t ↦ inr (length nodes, missing_leaf good (record { part = t.0; exists = t.1; missing = t.2 }) refl)
      | inr none ↦ inl (record {
        each = λ k p at. elim (lt_or p n) [ inl low ↦ low | inr high ↦ absurd (good k (record { part = p; leaf_is = at; bad = inl (omega (arith, high)) })) ];
        all = λ p lt. elim (leaf_of nodes p) [ inl t ↦ t | inr no_leaf ↦ absurd (none p lt no_leaf) ];
        once = λ k m p a b. elim (trichotomy k m) [
          | inl lt ↦ absurd (good m (record { part = p; leaf_is = b; bad = inr (k, lt, a) }))
          | inr other ↦ (elim other [ inl e ↦ e | inr gt ↦ absurd (good k (record { part = p; leaf_is = a; bad = inr (m, gt, b) })) ])
        ];
      })
    ]

-- ---- splits

across_or : (parts : List Part) (s r : PartSet) (arc : Arc) → Decided (IsAcross parts s r arc)
across_or parts s r arc = carried (λ (t : (Has s arc.a × Has r arc.b) × ((arc.i < piece_count parts arc.a) × (arc.j < piece_count parts arc.b))). record { a_in = t.0.0; b_in = t.0.1; i_in = t.1.0; j_in = t.1.1 })
    (λ h. ((h.a_in, h.b_in), (h.i_in, h.j_in)))
    (both_or (both_or (member_or s arc.a) (member_or r arc.b)) (both_or (lt_or arc.i (piece_count parts arc.a)) (lt_or arc.j (piece_count parts arc.b))))

shown_or : (d n : V3) (p q : List V3) → Decided (IsShown p q d n)
shown_or d n p q = carried (λ (t : (n ≢ origin) × (Rattle.staat_model.specs.Walls.IsBeyond p q n × (Rattle.std.specs.Prelude.◌≤ℤ◌ (dot n d) (pos 0)))). record { wall = t.0; beyond = t.1.0; away = t.1.1 })
    (λ h. (h.wall, (h.beyond, h.away)))
    (both_or (not_or (vector_or n origin)) (both_or (beyond_or p q n) (le_or (dot n d) (pos 0))))

wall_or : (parts : List Part) (s r : PartSet) (d : V3) (sep : Sep) → Decided (IsWall parts s r d sep)
wall_or parts s r d sep = elim (across_or parts s r sep.arc) [
  | inr not ↦ inr (λ h. not h.across)
  | inl across ↦ carried (λ h. record { across = across; shown = h }) (λ h. h.shown) (holds_or parts sep.arc (λ p q. IsShown p q d sep.n) (shown_or d sep.n))
]

split_or : (parts : List Part) (split : SplitEntry) → IsEntryInOrder split
    → EntryHolds parts split ⊎ ((x : Reason) × IsSplitReason parts split x)
split_or parts split ascending = elim (vector_or split.d origin) [
  | inl rests ↦ inr (ZeroDirection split.node, zero_direction rests refl)
  | inr moves ↦ (elim (all_or (IsWall parts split.moved split.rest split.d) (wall_or parts split.moved split.rest split.d) split.seps) [
    | inr t ↦ inr (BadSeparator (split.line + 1 + t.0), bad_separator t.0 moves t.1 refl)
    | inl walls ↦ with_walls moves walls (least_or arc_cmp arc_total arc_exact Fresh (λ other. not_or (contains_or arc_cmp arc_total arc_exact arcs other)) across.xs)
  ])
]
  where
    arcs : List Arc
    arcs = map (λ sep. sep.arc) split.seps

    Fresh : Arc → Type 0
    Fresh other = Contains arcs other → ⊥

    across : Listing (IsAcross parts split.moved split.rest)
    across = arcs_listing parts split.moved split.rest

    with_walls : split.d ≢ origin → All (IsWall parts split.moved split.rest split.d) split.seps
        → Rattle.staat_model.proofs.Decisions.LeastIn arc_cmp arc_total arc_exact Fresh across.xs ⊎ ((y : Arc) → Contains across.xs y → Fresh y → ⊥)
        → EntryHolds parts split ⊎ ((x : Reason) × IsSplitReason parts split x)
    with_walls moves walls (inl t) = inr (
      MissingSeparator t.x.a t.x.i t.x.b t.x.j,
      missing_separator t.x moves walls (record {
        has = (across.from t.x t.listed, t.has);
        least = λ y h. t.least y (across.all y h.0) h.1;
      }) refl,
    )
    with_walls moves walls (inr none) = inl (record {
      moves = moves;
      walls = walls;
      arcs = record {
        each = λ x c. let (sep, sep_in, is) = from_map (λ sep. sep.arc) split.seps x c in subst (IsAcross parts split.moved split.rest) (sym is) (All-contains (IsWall parts split.moved split.rest split.d) split.seps sep walls sep_in).across;
        all = λ x h. elim (contains_or arc_cmp arc_total arc_exact arcs x) [ inl c ↦ c | inr not ↦ absurd (none x (across.all x h) not) ];
        once = sorted_once arc_cmp arc_total arc_exact arcs ascending;
      };
    })

tree_or : (parts : List Part) (t : WalledPlan) → All IsNodeInOrder (nodes_of t) → SplitsHold parts t ⊎ ((x : Reason) × IsTreeReason parts t x)
tree_or parts t all = elim (all_or_where IsEntryInOrder (EntryHolds parts) decided xs in_order) [
  | inl hold ↦ inl (splits_hold parts t 0 first_line hold)
  | inr (k, first) ↦ (elim (split_or parts first.x (All-at IsEntryInOrder xs k first.x first.at in_order)) [
    | inl holds ↦ absurd (first.fails holds)
    | inr bad ↦ inr (bad.0, record { place = k; first = first; reason_is = bad.1 })
  ])
]
  where
    xs : List SplitEntry
    xs = splits_of t 0 first_line

    in_order : All IsEntryInOrder xs
    in_order = entries_in_order t 0 first_line all

    decided : (x : SplitEntry) → IsEntryInOrder x → Decided (EntryHolds parts x)
    decided x ascending = elim (split_or parts x ascending) [ inl holds ↦ inl holds | inr bad ↦ inr (split_reason_some parts x bad.0 bad.1) ]

plan_or : (parts : List Part) (stated : ℕ) (nodes : List Node) → IsPlanInOrder stated nodes → PlanHolds parts stated nodes ⊎ ((x : Reason) × IsPlanReason parts stated nodes x)
plan_or parts stated nodes form = elim (nat_or stated (length parts)) [
  | inr wrong ↦ inr (WrongParts stated, reasons.wrong_parts wrong refl)
  | inl count ↦ (elim (leaves_or (length parts) nodes) [
    | inr t ↦ inr (BadLeaves t.0, bad_leaves t.0 count t.1 refl)
    | inl leaves ↦ (elim (tree_or parts form.tree (subst (All IsNodeInOrder) form.is form.each)) [
      | inr t ↦ inr (t.0, bad_split form.tree count leaves form.is t.1)
      | inl splits ↦ inl (record { count = count; tree = form.tree; tree_is = form.is; leaves = leaves; splits = splits })
    ])
  ])
]

-- ---- witnesses

set_or : (parts : List Part) (w : PartSet) → IsSubset w (below MOST_PARTS) → IsStuckSet parts w ⊎ reasons.IsNoStuckSet parts w
set_or parts w small = elim (lt_or (set.len w) 2) [
  | inl few ↦ inr (inl few)
  | inr many ↦ (elim (below_or (λ p. Has w p × (length parts ≤ p)) (λ p. both_or {Q = length parts ≤ p} (member_or w p) (grind arith)) MOST_PARTS) [
    | inl t ↦ inr (inr (t.0, t.2.0, t.2.1))
    | inr none ↦ inl (record {
      two = omega (arith, many);
      within = λ p h. elim (lt_or p (length parts)) [
        | inl low ↦ (has-below (length parts) p).1 low
        | inr high ↦ absurd (none p ((has-below MOST_PARTS p).0 (small p h)) (h, omega (arith, high)))
      ];
    })
  ])
]

root_of : (parts : List Part) (w : PartSet) → IsStuckSet parts w → (root : ℕ) × IsLeastOf w root
root_of parts w is = elim (below_or (Has w) (member_or w) (length parts)) [
  | inl t ↦ (t.0, record { has = t.2; least = λ q h. elim (lt_or q t.0) [ inl lt ↦ absurd (t.3 q lt h) | inr ge ↦ omega (arith, ge) ] })
  | inr none ↦ (let few : set.len w ≤ 0 = len_below 0 w (λ q h. absurd (none q ((has-below (length parts) q).0 (is.within q h)) h)) in let two = is.two in absurd (omega (arith, few, two)))
]

sets_or : (s t : PartSet) → Decided (s ≡ t)
sets_or s t = carried (λ h. same_members s t h.0 h.1) (λ e. ((λ q h. subst (λ (z : PartSet). Has z q) e h), λ q h. subst (λ (z : PartSet). Has z q) (sym e) h))
    (both_or (subset_or s t) (subset_or t s))

reaches_or : (w reached : PartSet) (pairs : List (ℕ × ℕ)) → Decided (ReachesAll w reached pairs)
reaches_or w reached [] = sets_or reached w
reaches_or w reached (pair ∷ pairs) =
    carried (λ (t : (Has reached pair.0 × Has w pair.1) × ((Has reached pair.1 → ⊥) × ReachesAll w (set.insert reached pair.1) pairs)). (t.0.0, t.0.1, t.1.0, t.1.1))
    (λ h. ((h.0, h.1), (h.2, h.3)))
    (both_or (both_or (member_or reached pair.0) (member_or w pair.1)) (both_or (not_or (member_or reached pair.1)) (reaches_or w (set.insert reached pair.1) pairs)))

within_or : (parts : List Part) (w : PartSet) (arc : Arc) → Decided (IsArcWithin parts w arc)
within_or parts w arc = carried (λ (t : IsAcross parts w w arc × (arc.a ≢ arc.b)). record { across = t.0; different = t.1 }) (λ h. (h.across, h.different))
    (both_or (across_or parts w w arc) (not_or (nat_or arc.a arc.b)))

witness_or : (parts : List Part) (w : PartSet) (root : ℕ) → IsLeastOf w root → (witness : Witness) → Decided (IsWitness parts w witness)
witness_or parts w root is witness =
    carried (λ (t : (All (IsArcWithin parts w) witness.outs × All (IsArcWithin parts w) witness.ins) × (Outs root × Ins root)).
    record { outs = t.0.0; ins = t.0.1; root = root; root_is = is; outs_reach = t.1.0; ins_reach = t.1.1 })
    (λ h. ((h.outs, h.ins), (subst Outs (one_root h.root h.root_is) h.outs_reach, subst Ins (one_root h.root h.root_is) h.ins_reach)))
    (both_or (both_or (all_decided (IsArcWithin parts w) (within_or parts w) witness.outs) (all_decided (IsArcWithin parts w) (within_or parts w) witness.ins))
    (both_or (reaches_or w (single root) (map outward witness.outs)) (reaches_or w (single root) (map inward witness.ins))))
  where
    Outs : ℕ → Type 0
    Outs p = ReachesAll w (single p) (map outward witness.outs)

    Ins : ℕ → Type 0
    Ins p = ReachesAll w (single p) (map inward witness.ins)

    one_root : (p : ℕ) → IsLeastOf w p → p ≡ root
    one_root p other = let low = other.least root is.has in let high = is.least p other.has in omega (arith, low, high)

-- ---- directions

blocking_or : (parts : List Part) (d : V3) (arc : Arc) → Decided (IsBlocking parts d arc)
blocking_or parts d arc = holds_or parts arc (λ p q. (n : V3) → IsFacet p q n → pos 0 <ℤ dot n d) (λ p q. ahead_or p q (facets_listing p q))
  where
    ahead_or : (p q : List V3) → Listing (IsFacet p q) → Decided ((n : V3) → IsFacet p q n → pos 0 <ℤ dot n d)
    ahead_or p q t = carried (λ all n f. All-contains (λ n. pos 0 <ℤ dot n d) t.xs n all (t.all n f)) (λ h. All-from_members (λ n. pos 0 <ℤ dot n d) t.xs (λ n c. h n (t.from n c)))
        (all_decided (λ n. pos 0 <ℤ dot n d) (λ n. less_or (pos 0) (dot n d)) t.xs)

blocked_or : (parts : List Part) (witnesses : List Witness) (dir : Dir) → Decided (IsBlocked parts witnesses dir)
blocked_or parts witnesses dir = go (slice_get witnesses dir.witness) refl
  where
    go : (o : Option Witness) → slice_get witnesses dir.witness ≡ o → Decided (IsBlocked parts witnesses dir)
    go None e = inr (λ h. let wrong : None ≡ Some h.witness = sym e ∙ h.witness_is in cc)
    go (Some x) e = carried (λ (t : All (IsBlocking parts dir.d) x.outs × All (IsBlocking parts dir.d) x.ins). record { witness = x; witness_is = e; outs = t.0; ins = t.1 })
        (λ h. let same : h.witness ≡ x = one_at_place witnesses dir.witness h.witness x h.witness_is e in
        (subst (λ (y : Witness). All (IsBlocking parts dir.d) y.outs) same h.outs, subst (λ (y : Witness). All (IsBlocking parts dir.d) y.ins) same h.ins))
        (both_or (all_decided (IsBlocking parts dir.d) (blocking_or parts dir.d) x.outs) (all_decided (IsBlocking parts dir.d) (blocking_or parts dir.d) x.ins))

line_or : (dirs : List Dir) (v : V3) → Decided (HasLine dirs v)
line_or dirs v = contains_or vector_cmp vector_total vector_exact (map (λ dir. dir.d) dirs) v

listed_or : (version : ℕ) (dirs : List Dir) (v : V3) → Decided (IsListed version dirs v)
listed_or version dirs v = either_or (line_or dirs v) (both_or (nat_or version 2) (line_or dirs (negative v)))

-- ---- refusals

module _ (parts : List Part) (version stated : ℕ) (w : PartSet) (witnesses : List Witness) (dirs : List Dir) where
  abbrev Answer : Type 0
  Answer = RefusalHolds parts version stated w witnesses dirs ⊎ ((x : Reason) × IsRefusalReason parts version stated w witnesses dirs x)

  with_trees : stated ≡ length parts → IsStuckSet parts w → All (IsWitness parts w) witnesses → Answer
  with_trees count is trees = elim (all_or (IsBlocked parts witnesses) (blocked_or parts witnesses) dirs) [
    | inr t ↦ inr (BadArc (first_line + sum_by witness_size witnesses + t.0), bad_arc t.0 count is trees t.1 refl)
    | inl blocked ↦ (let table = some_planes parts w in
        elim (first_or (IsListed version dirs) (listed_or version dirs) (vertices table.0)) [
          | inr t ↦ inr (MissingDirection t.0, missing_direction table.0 t.0 count is trees blocked table.1 t.1 refl)
          | inl all ↦ inl (record { count = count; stuck_set = is; trees = trees; blocked = blocked; planes = table.0; planes_are = table.1; all = all })
        ])
  ]

  with_set : stated ≡ length parts → IsStuckSet parts w → Answer
  with_set count is =
      let root = root_of parts w is in
      elim (all_or (IsWitness parts w) (witness_or parts w root.0 root.1) witnesses) [
        | inr t ↦ inr (BadTree t.0, bad_tree t.0 count is t.1 refl)
        | inl trees ↦ with_trees count is trees
      ]

  refusal_or : IsSubset w (below MOST_PARTS) → Answer
  refusal_or small = elim (nat_or stated (length parts)) [
    | inr wrong ↦ inr (WrongParts stated, reasons.wrong_parts wrong refl)
    | inl count ↦ (elim (set_or parts w small) [ inr unfit ↦ inr (BadStuckSet, bad_stuck_set count unfit refl) | inl is ↦ with_set count is ])
  ]

-- ---- certificates

by_body : (parts : List Part) (version stated : ℕ) (b : Body) → IsBodyInOrder version stated b
    → All IsInBounds (lines_of (record { version = version; parts = stated; body = b }))
    → (v : Verdict) × IsVerdict parts (record { version = version; parts = stated; body = b }) v
by_body parts version stated (body.Plan nodes) form lines = elim (plan_or parts stated nodes form) [ inl holds ↦ (ValidPlan, holds) | inr t ↦ (Not t.0, t.1) ]
by_body parts version stated (body.Stuck w witnesses dirs) form lines =
    elim (refusal_or parts version stated w witnesses dirs (lines 2 (line.Stuck w) (omega arith)).1) [ inl holds ↦ (ValidRefusal, holds) | inr t ↦ (Not t.0, t.1) ]

pub some_verdict_lemma : (parts : List Part) (c : Certificate) → IsWellFormed c → (v : Verdict) × IsVerdict parts c v
some_verdict_lemma parts c form = by_body parts c.version c.parts c.body form.body form.lines

-- where no reason applies it is valid
pub valid_lemma : (parts : List Part) (c : Certificate) → IsWellFormed c → ((r : Reason) → reasons.IsReason parts c r → ⊥) → certificates.IsValidPlan parts c ⊎ certificates.IsValidRefusal parts c
valid_lemma parts c form none = go (some_verdict_lemma parts c form)
  where
    go : (v : Verdict) × IsVerdict parts c v → certificates.IsValidPlan parts c ⊎ certificates.IsValidRefusal parts c
    go (ValidPlan, holds) = inl holds
    go (ValidRefusal, holds) = inr holds
    go (Not r, is) = absurd (none r is)
