-- Each assembly has an outcome.
use Rattle.std.proofs.Common.{◌≡◌, ◌≢◌, ◌⊎◌, ℕ, zero, suc, ◌<◌, ◌≤◌, List, [], ◌∷◌, ◌++◌, All, Contains, length, map, Bool, true, false, refl, sym, subst, arith, inl, inr}
use Rattle.std.specs.Prelude.{pos, ◌<ℤ◌}
use Rattle.std.specs.FinSet as set
use Rattle.std.proofs.lemmas.List.Elements.{All-contains, All-cons, All-nil, Contains-append_left, Contains-append_right}
use Rattle.staat_vec.specs.declared.vector.V3.{V3}
use Rattle.staat_vec.specs.Lists.{IsFirst}
use Rattle.staat_vec.specs.Vectors.{dot, origin}
use Rattle.staat_vec.proofs.Unique.{Contains-cases, Contains-front, Contains-later, Contains-nothing, IsFirst-in}
use Rattle.staat_model.specs.declared.assembly.Part.{Part}
use Rattle.staat_model.specs.declared.certificate.Arc.{Arc}
use Rattle.staat_model.specs.declared.set.PartSet.{PartSet}
use Rattle.staat_model.specs.Assemblies.{HoldsAt, IsAssembly}
use Rattle.staat_model.specs.Certificates.{IsAcross}
use Rattle.staat_model.specs.Facets.{IsFacet}
use Rattle.staat_model.specs.Outcomes.{AreTries, Finding, IsMinimal, IsMovedSide, IsOutcome, IsStep, Serves, Try, both_planned, moved_stuck, no_step, one_part, planned, rest_stuck, stuck, try_cell, try_vertex}
use Rattle.staat_model.specs.Planes.{vertices}
use Rattle.staat_model.specs.Plans.{leaf, split}
use Rattle.staat_model.specs.Removal.{IsFree, MeetsAlong}
use Rattle.staat_model.specs.Sets.{Has, IsNonempty, IsSide, IsSubset, below, single}
use Rattle.staat_model.proofs.Decisions.{Decided, all_decided, below_or, both_or, carried, less_or, lt_or, not_or}
use Rattle.staat_model.proofs.FreeSides.{member_or, subset_or}
use Rattle.staat_model.proofs.GraphLemmas.{piece_is}
use Rattle.staat_model.proofs.Listings.{Listing}
use Rattle.staat_model.proofs.Members.{All-from_members}
use Rattle.staat_model.proofs.PieceFacets.{meets_by_facets_lemma}
use Rattle.staat_model.proofs.RestrictLemmas.{nonempty_or, rest_within}
use Rattle.staat_model.proofs.SetBits.{has-below}
use Rattle.staat_model.proofs.SetMembers.{has-difference, has-empty, has-insert, has-single}
use Rattle.staat_model.proofs.SetSizes.{one_is, one_within}
use Rattle.staat_model.proofs.SetWords.{same_members}
use Rattle.staat_model.proofs.SomePlanes.{arcs_listing, facets_listing, holds_or, some_planes, vector_or}
use Rattle.staat_graph.proofs.Finite.{len_some}
use Rattle.staat_cells.proofs.SomeCells.{some_cells}
use Rattle.staat_limits.specs.declared.limits.TheConstants.{MOST_CELL_PLANES}
use Rattle.staat_certify.specs.Certifying.{HasFewPlanes}
use Rattle.staat_plan.proofs.Fewer.{fewer_planes_lemma}
use Rattle.staat_plan.proofs.OutcomeLemmas.{rest_fewer, side_fewer}
use Rattle.staat_planning.proofs.TableLemmas.{table_planes}
use Rattle.staat_vec.proofs.ListLaws.{Contains-map}
use Rattle.staat_model.proofs.PlanLemmas.{piece_within}
use Rattle.staat_model.proofs.OtherSides.{rest_some}

-- ---- searches

some_in : {X : Type 0} (P : X → Type 0) → ((x : X) → Decided (P x)) → (xs : List X) → ((x : X) × Contains xs x × P x) ⊎ ((x : X) → Contains xs x → P x → ⊥)
some_in P f [] = inr (λ x c p. Contains-nothing x c)
some_in {X} P f (x ∷ xs) = go (f x) (some_in P f xs)
  where
    go : Decided (P x) → ((y : X) × Contains xs y × P y) ⊎ ((y : X) → Contains xs y → P y → ⊥) → ((y : X) × Contains (x ∷ xs) y × P y) ⊎ ((y : X) → Contains (x ∷ xs) y → P y → ⊥)
    go (inl p) rest = inl (x, Contains-front x xs, p)
    go (inr not) (inl (y, c, p)) = inl (y, Contains-later x xs y c, p)
    go (inr not) (inr none) = inr (λ y c p. elim (Contains-cases x xs y c) [ inl e ↦ not (subst P e p) | inr later ↦ none y later p ])

first_in : {X : Type 0} (P : X → Type 0) → ((x : X) → Decided (P x)) → (xs : List X) → ((x : X) × IsFirst P xs x) ⊎ All (λ x. P x → ⊥) xs
first_in P f [] = inr (All-nil (λ x. P x → ⊥))
first_in {X} P f (x ∷ xs) = go (f x) (first_in P f xs)
  where
    go : Decided (P x) → ((y : X) × IsFirst P xs y) ⊎ All (λ y. P y → ⊥) xs → ((y : X) × IsFirst P (x ∷ xs) y) ⊎ All (λ y. P y → ⊥) (x ∷ xs)
    go (inl p) rest = inl (x, inl (refl, p))
    go (inr not) (inl (y, first)) = inl (y, inr (not, first))
    go (inr not) (inr none) = inr (All-cons (λ y. P y → ⊥) x xs not none)

-- ---- sets

without : (s : PartSet) (n : ℕ) → IsSubset s (below (suc n)) → IsSubset (set.difference s (single n)) (below n)
without s n within q h =
    let d = (has-difference s (single n) q).0 h in
    let lt : q < suc n = (has-below (suc n) q).0 (within q d.0) in
    let other : q ≡ n → ⊥ = λ e. d.1 ((has-single n q).1 e) in
    let less : q < n = grind arith in
    (has-below n q).1 less

with_it : (s : PartSet) (n : ℕ) → Has s n → set.insert (set.difference s (single n)) n ≡ s
with_it s n has = same_members (set.insert (set.difference s (single n)) n) s
    (λ q h. elim ((has-insert (set.difference s (single n)) n q).0 h) [ inl e ↦ subst (Has s) (sym e) has | inr d ↦ ((has-difference s (single n) q).0 d).0 ])
    (λ q h. (has-insert (set.difference s (single n)) n q).1 (elim (member_or (single n) q) [ inl it ↦ inl ((has-single n q).0 it) | inr other ↦ inr ((has-difference s (single n) q).1 (h, other)) ]))

without_it : (s : PartSet) (n : ℕ) → (Has s n → ⊥) → set.difference s (single n) ≡ s
without_it s n lacks = same_members (set.difference s (single n)) s
    (λ q h. ((has-difference s (single n) q).0 h).0)
    (λ q h. (has-difference s (single n) q).1 (h, λ it. lacks (subst (Has s) ((has-single n q).0 it) h)))

-- a list of sets, with each set of numbers below n
record Subsets (n : ℕ) : Type 0 where
  sets : List PartSet
  all : (s : PartSet) → IsSubset s (below n) → Contains sets s

subsets : (n : ℕ) → Subsets n
subsets zero = record {
  sets = set.empty ∷ [];
  all = λ s within. subst (Contains (set.empty ∷ [])) (same_members set.empty s (λ q h. absurd (has-empty q h)) within) (Contains-front set.empty []);
}
subsets (suc n) =
    let t = subsets n in
    let more = map (λ s. set.insert s n) t.sets in
    record {
      sets = t.sets ++ more;
      all = λ s within.
          let rest = t.all (set.difference s (single n)) (without s n within) in
          elim (member_or s n) [
            | inl has ↦ Contains-append_right t.sets more s (subst (Contains more) (with_it s n has) (Contains-map (λ s. set.insert s n) t.sets (set.difference s (single n)) rest))
            | inr lacks ↦ Contains-append_left t.sets more s (subst (Contains t.sets) (without_it s n lacks) rest)
          ];
    }

side_or : (w s : PartSet) → Decided (IsSide w s)
side_or w s = go (nonempty_or s) (subset_or s w) (subset_or w s)
  where
    go : IsNonempty s ⊎ ((p : ℕ) → Has s p → ⊥) → IsSubset s w ⊎ (IsSubset s w → ⊥) → IsSubset w s ⊎ (IsSubset w s → ⊥) → Decided (IsSide w s)
    go (inr none) b c = inr (λ side. none side.nonempty.0 side.nonempty.1)
    go (inl some) (inr not) c = inr (λ side. not side.within)
    go (inl some) (inl within) (inl all) = inr (λ side. side.proper (same_members s w within all))
    go (inl some) (inl within) (inr not) = inl (record { nonempty = some; within = within; proper = λ e. not (λ q h. subst (λ (t : PartSet). Has t q) (sym e) h) })

-- ---- what blocks can be decided

ahead_or : (p q : List V3) (d : V3) → Decided ((n : V3) → IsFacet p q n → pos 0 <ℤ dot n d)
ahead_or p q d = carried there back (all_decided (λ (n : V3). pos 0 <ℤ dot n d) (λ n. less_or (pos 0) (dot n d)) listed.xs)
  where
    listed : Listing (IsFacet p q)
    listed = facets_listing p q

    there : All (λ (n : V3). pos 0 <ℤ dot n d) listed.xs → (n : V3) → IsFacet p q n → pos 0 <ℤ dot n d
    there ahead n facet = All-contains (λ (n : V3). pos 0 <ℤ dot n d) listed.xs n ahead (listed.all n facet)

    back : ((n : V3) → IsFacet p q n → pos 0 <ℤ dot n d) → All (λ (n : V3). pos 0 <ℤ dot n d) listed.xs
    back ahead = All-from_members (λ (n : V3). pos 0 <ℤ dot n d) listed.xs (λ n c. ahead n (listed.from n c))

module _ (parts : List Part) (is : IsAssembly parts) where
  meets_or : (d : V3) (arc : Arc) → Decided (MeetsAlong parts d arc)
  meets_or d arc = carried there back (holds_or parts arc (λ p q. (n : V3) → IsFacet p q n → pos 0 <ℤ dot n d) (λ p q. ahead_or p q d))
    where
      there : HoldsAt parts arc (λ p q. (n : V3) → IsFacet p q n → pos 0 <ℤ dot n d) → MeetsAlong parts d arc
      there h = record { p = h.p; q = h.q; p_is = h.p_is; q_is = h.q_is; holds = (meets_by_facets_lemma h.p h.q d (piece_is parts arc.a arc.i h.p is h.p_is) (piece_is parts arc.b arc.j h.q is h.q_is)).1 h.holds }

      back : MeetsAlong parts d arc → HoldsAt parts arc (λ p q. (n : V3) → IsFacet p q n → pos 0 <ℤ dot n d)
      back h = record { p = h.p; q = h.q; p_is = h.p_is; q_is = h.q_is; holds = (meets_by_facets_lemma h.p h.q d (piece_is parts arc.a arc.i h.p is h.p_is) (piece_is parts arc.b arc.j h.q is h.q_is)).0 h.holds }

  free_or : (s r : PartSet) (d : V3) → Decided (IsFree parts s r d)
  free_or s r d = carried there back (both_or (not_or (vector_or d origin)) (all_decided (λ (arc : Arc). MeetsAlong parts d arc → ⊥) (λ arc. not_or (meets_or d arc)) all.xs))
    where
      all : Listing (IsAcross parts s r)
      all = arcs_listing parts s r

      there : (d ≢ origin) × All (λ (arc : Arc). MeetsAlong parts d arc → ⊥) all.xs → IsFree parts s r d
      there h = record {
        moves = h.0;
        clear = λ arc a b m. All-contains (λ (arc : Arc). MeetsAlong parts d arc → ⊥) all.xs arc h.1 (all.all arc (record { a_in = a; b_in = b; i_in = piece_within parts arc.a arc.i m.p m.p_is; j_in = piece_within parts arc.b arc.j m.q m.q_is })) m;
      }

      back : IsFree parts s r d → (d ≢ origin) × All (λ (arc : Arc). MeetsAlong parts d arc → ⊥) all.xs
      back free = (free.moves, All-from_members (λ (arc : Arc). MeetsAlong parts d arc → ⊥) all.xs (λ arc c. let across = all.from arc c in free.clear arc across.a_in across.b_in))

  -- ---- the side that moves

  module _ (n : ℕ) (w : PartSet) (small : IsSubset w (below n)) where
    abbrev Clear : V3 → PartSet → Type 0
    Clear d s = IsFree parts s (set.difference w s) d

    -- s has a side that is free, or none
    free_side_or : (d : V3) (s : PartSet) → IsSubset s w → ((t : PartSet) × IsSide s t × Clear d t) ⊎ ((t : PartSet) → IsSide s t → Clear d t → ⊥)
    free_side_or d s within = elim (some_in (λ t. IsSide s t × Clear d t) (λ t. both_or (side_or s t) (free_or t (set.difference w t) d)) (subsets n).sets) [
      | inl (t, c, h) ↦ inl (t, h.0, h.1)
      | inr none ↦ inr (λ t side free. none t ((subsets n).all t (λ q h. small q (within q (side.within q h)))) (side, free))
    ]

    serves_or : (d : V3) → Decided (Serves parts w d)
    serves_or d = elim (free_side_or d w (λ q h. h)) [
      | inl (t, side, free) ↦ inl (record { side = t; is_side = side; free = free })
      | inr none ↦ inr (λ serves. none serves.side serves.is_side serves.free)
    ]

    minimal_or : (d : V3) (s : PartSet) → Decided (IsMinimal parts w d s)
    minimal_or d s = go (nonempty_or s) (subset_or s w) (free_or s (set.difference w s) d)
      where
        go : IsNonempty s ⊎ ((p : ℕ) → Has s p → ⊥) → IsSubset s w ⊎ (IsSubset s w → ⊥) → Decided (Clear d s) → Decided (IsMinimal parts w d s)
        go (inr none) b c = inr (λ m. none m.nonempty.0 m.nonempty.1)
        go (inl some) (inr not) c = inr (λ m. not m.within)
        go (inl some) (inl within) (inr not) = inr (λ m. not m.free)
        go (inl some) (inl within) (inl free) = elim (free_side_or d s within) [
          | inl (t, side, clear) ↦ inr (λ m. m.minimal t side clear)
          | inr none ↦ inl (record { nonempty = some; within = within; free = free; minimal = none })
        ]

    -- a set that is free has a smallest one in it
    smallest : (k : ℕ) (d : V3) (s : PartSet) → set.len s ≤ k → IsNonempty s → IsSubset s w → Clear d s → (m : PartSet) × IsMinimal parts w d m
    smallest zero d s le some within free = (s, record { nonempty = some; within = within; free = free; minimal = λ t side clear. (let fewer = side_fewer s t side in omega (arith, fewer, le)) })
    smallest (suc k) d s le some within free = elim (free_side_or d s within) [
      | inr none ↦ (s, record { nonempty = some; within = within; free = free; minimal = none })
      | inl (t, side, clear) ↦ smallest k d t (let fewer = side_fewer s t side in omega (arith, fewer, le)) side.nonempty (λ q h. within q (side.within q h)) clear
    ]

    -- some smallest set that is free holds q
    abbrev Holds : V3 → ℕ → Type 0
    Holds d q = (t : PartSet) × IsMinimal parts w d t × Has t q

    holds_one_or : (d : V3) (q : ℕ) → Decided (Holds d q)
    holds_one_or d q = elim (some_in (λ t. IsMinimal parts w d t × Has t q) (λ t. both_or (minimal_or d t) (member_or t q)) (subsets n).sets) [
      | inl (t, c, h) ↦ inl (t, h.0, h.1)
      | inr none ↦ inr (λ h. none h.0 ((subsets n).all h.0 (λ p has. small p (h.1.within p has))) (h.1, h.2))
    ]

    moved_side : (d : V3) → Serves parts w d → (s : PartSet) × IsMovedSide parts w d s
    moved_side d serves =
        let m = smallest (set.len serves.side) d serves.side (omega arith) serves.is_side.nonempty serves.is_side.within serves.free in
        elim (below_or (Holds d) (holds_one_or d) n) [
          | inl (q, lt, h, least) ↦ (h.0, record { is = h.1; least = q; has = h.2; first = λ u p minimal has. elim (lt_or p q) [ inl low ↦ absurd (least p low (u, minimal, has)) | inr high ↦ omega (arith, high) ] })
          | inr none ↦ (let p = m.1.nonempty in absurd (none p.0 ((has-below n p.0).0 (small p.0 (m.1.within p.0 p.1))) (m.0, m.1, p.1)))
        ]

    -- the side that moves along a direction that serves is a side
    moved_is_side : (d : V3) (s : PartSet) → Serves parts w d → IsMovedSide parts w d s → IsSide w s
    moved_is_side d s serves moved = record {
      nonempty = moved.is.nonempty;
      within = moved.is.within;
      proper = λ e. moved.is.minimal serves.side (subst (λ (t : PartSet). IsSide t serves.side) (sym e) serves.is_side) serves.free;
    }

-- ---- the directions to try

-- the planes of all parts are few enough for a list of all cells, which a robust plan takes
abbrev pub HasCells : Bool → List Part → Type 0
HasCells robust parts = robust ≡ true → HasFewPlanes parts (below (length parts)) MOST_CELL_PLANES

some_tries : (robust : Bool) (parts : List Part) (w : PartSet) → IsAssembly parts → HasCells robust parts → IsSubset w (below (length parts)) → (tries : List Try) × AreTries robust parts w tries
some_tries false parts w is few within =
    let table = some_planes parts w in
    (map try_vertex (vertices table.0), record { planes = table.0; planes_are = table.1; is = refl })
some_tries true parts w is few within =
    let table = some_planes parts w in
    let fit = few refl in
    let le : length table.0 ≤ length fit.planes = fewer_planes_lemma parts w (below (length parts)) table.0 fit.planes within table.1 fit.planes_are in
    let most : length fit.planes ≤ 256 = fit.few in
    let cells = (some_cells table.0 (table_planes parts w table.0 is table.1) (omega (arith, le, most))).1 in (
      map try_cell (cells.opens ++ cells.edges ++ cells.points),
      record {
        planes = table.0;
        planes_are = table.1;
        opens = cells.opens;
        edges = cells.edges;
        points = cells.points;
        opens_are = cells.opens_are;
        edges_are = cells.edges_are;
        points_are = cells.points_are;
        is = refl;
      },
    )

-- ---- the outcome

module _ (robust : Bool) (parts : List Part) (is : IsAssembly parts) (few : HasCells robust parts) where
  abbrev Found : PartSet → Type 0
  Found w = (f : Finding) × IsOutcome robust parts w f

  joined : (w side : PartSet) (try : Try) → 2 ≤ set.len w → IsStep robust parts w try side → Found side → Found (set.difference w side) → Found w
  joined w side try two step (stuck a, moved) rest = (stuck a, moved_stuck two step moved)
  joined w side try two step (planned p ms, moved) (stuck b, rest) = (stuck b, rest_stuck two step moved rest)
  joined w side try two step (planned p ms, moved) (planned r rs, rest) = (planned (split try.d p r) (try.mark ++ ms ++ rs), both_planned two step moved rest refl refl)

  found_in : (k : ℕ) (w : PartSet) → set.len w ≤ k → IsNonempty w → IsSubset w (below (length parts)) → Found w
  found_in zero w le some small = (let pos = len_some w some.0 some.1 in absurd (omega (arith, pos, le)))
  found_in (suc k) w le some small = elim (lt_or 1 (set.len w)) [
    | inr one ↦ (planned (leaf some.0) [], one_part (one_is w some.0 some.1 (one_within w some.0 some.1 (omega (arith, one)))))
    | inl two ↦
        let n = length parts in
        let (tries, are) = some_tries robust parts w is few small in
        elim (first_in (λ (t : Try). Serves parts w t.d) (λ (t : Try). serves_or parts is n w small t.d) tries) [
          | inr none ↦ (stuck w, no_step (omega (arith, two)) (record { tries = tries; tries_are = are; none = none }))
          | inl (try, first) ↦
              let serves : Serves parts w try.d = (IsFirst-in (λ (t : Try). Serves parts w t.d) tries try first).1 in
              let moved = moved_side parts is n w small try.d serves in
              let side : IsSide w moved.0 = moved_is_side parts is n w small try.d moved.0 serves moved.1 in
              let fewer = side_fewer w moved.0 side in
              let less = rest_fewer w moved.0 (set.difference w moved.0) side refl in
              joined w moved.0 try (omega (arith, two)) (record { tries = tries; tries_are = are; first = first; moved = moved.1 })
              (found_in k moved.0 (omega (arith, fewer, le)) side.nonempty (λ q h. small q (side.within q h)))
              (found_in k (set.difference w moved.0) (omega (arith, less, le)) (rest_some w moved.0 side) (λ q h. small q (rest_within w moved.0 q h)))
        ]
  ]

  pub some_outcome : (f : Finding) × IsOutcome robust parts (below (length parts)) f
  some_outcome =
      let first : Has (below (length parts)) 0 = (has-below (length parts) 0).1 (omega (arith, is.at_least)) in
      found_in (set.len (below (length parts))) (below (length parts)) (omega arith) (0, first) (λ q h. h)
