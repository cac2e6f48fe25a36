-- What valid certificates show.
use Rattle.std.proofs.Common.{◌≡◌, ◌≢◌, ◌⊎◌, ◌↔◌, ℕ, zero, suc, ◌+◌, ◌-◌, ◌<◌, ◌≤◌, List, [], ◌∷◌, ◌++◌, length, take, inl, inr, ⊎_elim, refl, sym, ap, subst, ◌∙◌, arith, All, Contains}
use Rattle.std.specs.Prelude.{Some, slice_get}
use Rattle.std.specs.FinSet as set
use Rattle.std.specs.List.Sorted.{IsStrictlySortedBy}
use Rattle.std.specs.Ordering.{nat_cmp}
use Rattle.std.proofs.lemmas.Bool.{cases_eq}
use Rattle.std.proofs.lemmas.List.FromFn.{length-range_with_len}
use Rattle.std.proofs.lemmas.List.Elements.{All-append, All-cons, All-contains, All-head, All-nil, All-tail, All-weaker}
use Rattle.staat_vec.specs.declared.vector.V3.{V3}
use Rattle.staat_vec.proofs.Unique.{Contains-cases, Contains-front, Contains-later, Contains-nothing, from_place}
use Rattle.staat_model.specs.declared.assembly.Part.{Part}
use Rattle.staat_model.specs.declared.set.PartSet.{PartSet}
use Rattle.staat_model.specs.Assemblies.{IsPart}
use Rattle.staat_model.specs.Plans.{IsGood, IsStuck, Plan, leaf, parts_of, split}
use Rattle.staat_model.specs.Removal.{IsFree}
use Rattle.staat_model.specs.Sets.{AreApart, Has, IsSubset, below, single}
use Rattle.staat_model.proofs.Places.{place_within, some_at}
use Rattle.staat_model.proofs.RestrictLemmas.{restrict_lemma}
use Rattle.staat_model.proofs.SetBits.{has-below}
use Rattle.staat_model.proofs.SetMembers.{has-empty, has-single, has-union}
use Rattle.staat_model.proofs.SetWords.{same_members}
use Rattle.staat_holds.specs.declared.hold.Hold.{Hold}
use Rattle.staat_holds.specs.Chains.{AllKeep, IsJoinedLast, IsOfOne, names_before, own_names}
use Rattle.staat_holds.proofs.ChainLaw.{last_stuck}
use Rattle.staat_holds.proofs.NodeNames.{has_named, parts_named}
use Rattle.staat_short.specs.declared.short.ShortNode.{ShortNode}
use Rattle.staat_short.specs.declared.short.ShortNode.TheVariants.{Leaf, Split, Group}
use Rattle.staat_short.specs.ShortTexts.{AreHoldsInOrder, GroupedPlan, IsHoldInOrder, IsShortNodeInOrder, IsUngrouped, grouped, part_alone, short_nodes_of, taken_apart}
use Rattle.staat_short.specs.PlanNodes.{without_groups}
use Rattle.staat_confirm.specs.Members.{AreMembersOnce, IsMemberAt, IsMemberWithin, StandsAt}
use Rattle.staat_confirm.specs.Owners.{AreFitNodes}
use Rattle.staat_confirm.specs.Splits.{KeepsHolds}
use Rattle.staat_confirm.specs.ShortVerdicts.{HasNoPlan, IsGoodDownTo, IsPlanByNodes, IsRefusalByNodes, IsStuckGroup, KeepNodeRules}
use Rattle.staat_confirm.proofs.Standing.{group_first, member_among, member_within, moved_stands, rest_stands, stands_within, whole_stands}
use Rattle.staat_vec.proofs.Naturals.{lt_or_le}
use Rattle.staat_holds.proofs.ChainSteps.{names_after_length}
use Rattle.staat_vec.proofs.Options.{some_injective}

-- ---- as many names as parts

-- ---- the set that holds join

of_nodes : (names nodes : List ℕ) → (w : PartSet) × ((p : ℕ) → Has w p ↔ IsOfOne names nodes p)
of_nodes names [] = (set.empty, λ p. (λ h. absurd (has-empty p h), λ o. absurd (Contains-nothing o.name o.listed)))
of_nodes names (n ∷ nodes) =
    let (w, is) = of_nodes names nodes in (
      set.union (parts_named names n) w,
      λ p. (
        λ h. ⊎_elim {C = IsOfOne names (n ∷ nodes) p} (λ a. record { name = n; named = (has_named names n p).0 a; listed = Contains-front n nodes })
            (λ b. let o = (is p).0 b in record { name = o.name; named = o.named; listed = Contains-later n nodes o.name o.listed }) ((has-union (parts_named names n) w p).0 h),
        λ o. (has-union (parts_named names n) w p).1 (⊎_elim {C = Has (parts_named names n) p ⊎ Has w p}
            (λ e. inl ((has_named names n p).1 (o.named ∙ ap Some e)))
            (λ c. inr ((is p).1 (record { name = o.name; named = o.named; listed = c }))) (Contains-cases n nodes o.name o.listed)),
      ),
    )

pub joined_set : (parts : List Part) (holds : List Hold) → 1 ≤ length holds → (w : PartSet) × ((p : ℕ) → Has w p ↔ IsJoinedLast parts holds p)
joined_set parts holds some = go (some_at holds (length holds - 1) (omega (arith, some)))
  where
    go : (hold : Hold) × (slice_get holds (length holds - 1) ≡ Some hold) → (w : PartSet) × ((p : ℕ) → Has w p ↔ IsJoinedLast parts holds p)
    go (hold, at) =
        let (w, is) = of_nodes (names_before parts holds (length holds - 1)) hold.nodes in
        (w, λ p. (λ h. record { k = length holds - 1; last = omega (arith, some); hold = hold; at = at; joined = (is p).0 h }, λ j. (is p).1 (from p j)))
      where
        from : (p : ℕ) → IsJoinedLast parts holds p → IsOfOne (names_before parts holds (length holds - 1)) hold.nodes p
        from p j =
            let e : j.k ≡ length holds - 1 = let l = j.last in omega (arith, l) in
            let same : j.hold ≡ hold = some_injective j.hold hold (sym (subst (λ m. slice_get holds m ≡ Some j.hold) e j.at) ∙ at) in
            subst (λ (h : Hold). IsOfOne (names_before parts holds (length holds - 1)) h.nodes p) same (subst (λ m. IsOfOne (names_before parts holds m) j.hold.nodes p) e j.joined)

pub stuck_group : (parts : List Part) (holds : List Hold) → All IsPart parts → AreHoldsInOrder holds → AllKeep parts holds → (w : PartSet) × IsStuckGroup parts w holds
stuck_group parts holds each order keep =
    let (w, is) = joined_set parts holds order.some in
    let sorted = All-weaker IsHoldInOrder (λ (hold : Hold). IsStrictlySortedBy nat_cmp hold.nodes) (λ hold h. h.nodes) holds order.each in
    (w, record { members = is; stuck = last_stuck parts holds each sorted keep w order.some is })

-- ---- the plan that stands at a place, down to its groups

module _ (parts : List Part) (nodes : List ShortNode) (each : All IsPart parts) (fit : AreFitNodes nodes) (keep : KeepNodeRules parts nodes) where
  -- the set has the parts of the plan, and the plan takes it apart
  record TakesApart (t : GroupedPlan) : Type 0 where
    pub w : PartSet
    pub members : (p : ℕ) → Has w p ↔ IsMemberWithin parts t p
    pub good : IsGoodDownTo parts w t

  alone : (q p : ℕ) → IsMemberWithin parts (part_alone q) p ↔ (p ≡ q)
  alone q p = (from, λ e. (0, record { node = Leaf q; at = refl; member = e }))
    where
      from : IsMemberWithin parts (part_alone q) p → p ≡ q
      from (zero, h) = subst (λ x. Rattle.staat_confirm.specs.Members.IsMemberOf parts x p) (some_injective h.node (Leaf q) (sym h.at)) h.member
      from (suc k, h) = let wrong = h.at in cc

  in_group : (holds : List Hold) (p : ℕ) → IsMemberWithin parts (grouped holds) p ↔ IsJoinedLast parts holds p
  in_group holds p = (from, λ j. (0, record { node = Group holds; at = refl; member = j }))
    where
      from : IsMemberWithin parts (grouped holds) p → IsJoinedLast parts holds p
      from (zero, h) = subst (λ x. Rattle.staat_confirm.specs.Members.IsMemberOf parts x p) (some_injective h.node (Group holds) (sym h.at)) h.member
      from (suc k, h) = let wrong = h.at in cc

  both_apart : (d : V3) (m r : GroupedPlan) (k : ℕ) → StandsAt nodes k (taken_apart d m r) → TakesApart m → TakesApart r → TakesApart (taken_apart d m r)
  both_apart d m r k at first second = record {
    w = set.union first.w second.w;
    members = λ p. (
      λ h. ⊎_elim {C = IsMemberWithin parts (taken_apart d m r) p}
          (λ a. let (j, low, high, is) = member_among parts nodes (k + 1) m p moved ((first.members p).0 a) in
          member_within parts nodes k (taken_apart d m r) j p at (omega (arith, low)) (let e = all in omega (arith, low, high, e)) is)
          (λ b. let (j, low, high, is) = member_among parts nodes (k + 1 + length (short_nodes_of m)) r p rest ((second.members p).0 b) in
          member_within parts nodes k (taken_apart d m r) j p at (omega (arith, low)) (let e = all in omega (arith, low, high, e)) is)
          ((has-union first.w second.w p).0 h),
      λ h. (has-union first.w second.w p).1 (side p h),
    );
    good = (first.w, (second.w, (refl, apart, free, first.good, second.good)));
  }
    where
      moved : StandsAt nodes (k + 1) m
      moved = moved_stands nodes k d m r at

      rest : StandsAt nodes (k + 1 + length (short_nodes_of m)) r
      rest = rest_stands nodes k d m r at

      all : length (short_nodes_of (taken_apart d m r)) ≡ 1 + length (short_nodes_of m) + length (short_nodes_of r)
      all = let both = Rattle.std.proofs.Common.length-append (short_nodes_of m) (short_nodes_of r) in omega (arith, both)

      side : (p : ℕ) → IsMemberWithin parts (taken_apart d m r) p → Has first.w p ⊎ Has second.w p
      side p h = let (j, low, high, is) = member_among parts nodes k (taken_apart d m r) p at h in ⊎_elim {C = Has first.w p ⊎ Has second.w p}
          (λ lt. inl ((first.members p).1 (member_within parts nodes (k + 1) m j p moved (above j low is) lt is)))
          (λ ge. inr ((second.members p).1 (member_within parts nodes (k + 1 + length (short_nodes_of m)) r j p rest ge (let e = all in omega (arith, high, e)) is)))
          (lt_or_le j (k + 1 + length (short_nodes_of m)))
        where
          -- a split has no members
          above : (j : ℕ) → k ≤ j → IsMemberAt parts nodes j p → k + 1 ≤ j
          above j low is = ⊎_elim {C = k + 1 ≤ j}
              (λ e. absurd (subst (λ x. Rattle.staat_confirm.specs.Members.IsMemberOf parts x p) (some_injective is.node (Split d) (sym is.at ∙ subst (λ i. slice_get nodes i ≡ Some (Split d)) (sym e) (Rattle.staat_confirm.proofs.Standing.split_first nodes k d m r at))) is.member))
              (λ ne. omega (arith, low, ne)) (cases_eq j k)

      apart : AreApart first.w second.w
      apart p a b =
          let (i, low, high, is) = member_among parts nodes (k + 1) m p moved ((first.members p).0 a) in
          let (j, from, to, other) = member_among parts nodes (k + 1 + length (short_nodes_of m)) r p rest ((second.members p).0 b) in
          let same = keep.members.once i j p is other in omega (arith, high, from, same)

      free : IsFree parts first.w second.w d
      free =
          let clear = keep.splits k (stands_within nodes k (taken_apart d m r) at) d m r at in record {
            moves = clear.moves;
            clear = λ arc a b h. clear.clear arc (record { from = (first.members arc.a).0 a; to = (second.members arc.b).0 b; meets = h });
          }

  takes_apart : (t : GroupedPlan) (k : ℕ) → StandsAt nodes k t → TakesApart t
  takes_apart (part_alone q) k at = record {
    w = single q;
    members = λ p. (λ h. (alone q p).1 ((has-single q p).0 h), λ h. (has-single q p).1 ((alone q p).0 h));
    good = refl;
  }
  takes_apart (grouped holds) k at =
      let here = group_first nodes k holds at in
      let listed = from_place nodes k (Group holds) here in
      let order : AreHoldsInOrder holds = All-contains IsShortNodeInOrder nodes (Group holds) fit.order listed in
      let keeps : AllKeep parts holds = All-contains (KeepsHolds parts) nodes (Group holds) keep.holds listed in
      let (w, stuck) = stuck_group parts holds each order keeps in record {
        w = w;
        members = λ p. (λ h. (in_group holds p).1 ((stuck.members p).0 h), λ h. (stuck.members p).1 ((in_group holds p).0 h));
        good = stuck;
      }
  takes_apart (taken_apart d m r) k at = both_apart d m r k at (takes_apart m (k + 1) (moved_stands nodes k d m r at)) (takes_apart r (k + 1 + length (short_nodes_of m)) (rest_stands nodes k d m r at))

  pub whole_apart : (t : GroupedPlan) → nodes ≡ short_nodes_of t → IsGoodDownTo parts (below (length parts)) t
  whole_apart t e =
      let at = whole_stands nodes t e in
      let h = takes_apart t 0 at in
      let same : h.w ≡ below (length parts) = same_members h.w (below (length parts))
      (λ p a. (has-below (length parts) p).1 (let (j, low, high, is) = member_among parts nodes 0 t p at ((h.members p).0 a) in keep.members.each j p is))
      (λ p a. (h.members p).1 (let (j, is) = keep.members.all p ((has-below (length parts) p).0 a) in (j, subst (λ l. IsMemberAt parts l j p) e is))) in
      subst (λ w. IsGoodDownTo parts w t) same h.good

-- ---- plans without groups

front : (xs ys : List ShortNode) → All IsUngrouped (xs ++ ys) → All IsUngrouped xs
front xs ys h = Rattle.staat_model.proofs.Members.all_front IsUngrouped xs ys h

back : (xs ys : List ShortNode) → All IsUngrouped (xs ++ ys) → All IsUngrouped ys
back xs ys h = Rattle.staat_model.proofs.Members.all_back IsUngrouped xs ys h

plan_of : (t : GroupedPlan) → All IsUngrouped (short_nodes_of t) → (plan : Plan) × (t ≡ without_groups plan)
plan_of (part_alone p) none = (leaf p, refl)
plan_of (grouped holds) none = absurd (All-head IsUngrouped (Group holds) [] none)
plan_of (taken_apart d m r) none =
    let tail = All-tail IsUngrouped (Split d) (short_nodes_of m ++ short_nodes_of r) none in
    let (a, e) = plan_of m (front (short_nodes_of m) (short_nodes_of r) tail) in
    let (b, f) = plan_of r (back (short_nodes_of m) (short_nodes_of r) tail) in
    (split d a b, λ i. taken_apart d (e i) (f i))

good_plan : (parts : List Part) (plan : Plan) (w : PartSet) → IsGoodDownTo parts w (without_groups plan) → (w ≡ parts_of plan) × IsGood parts w plan
good_plan parts (leaf p) w h = (h, h)
good_plan parts (split d m r) w (s, (u, (is, apart, free, moved, rest))) =
    let a = good_plan parts m s moved in
    let b = good_plan parts r u rest in
    let e : w ≡ set.union (parts_of m) (parts_of r) = is ∙ (λ i. set.union (a.0 i) (b.0 i)) in (
      e,
      (
        e,
        subst (λ x. AreApart x (parts_of r)) a.0 (subst (λ x. AreApart s x) b.0 apart),
        subst (λ x. IsFree parts x (parts_of r) d) a.0 (subst (λ x. IsFree parts s x d) b.0 free),
        subst (λ x. IsGood parts x m) a.0 a.1,
        subst (λ x. IsGood parts x r) b.0 b.1,
      ),
    )

pub plan_shown : (parts : List Part) (nodes : List ShortNode) → All IsPart parts → AreFitNodes nodes → KeepNodeRules parts nodes → All IsUngrouped nodes → IsPlanByNodes parts nodes
plan_shown parts nodes each fit keep none =
    let (t, e) = fit.one in
    let (plan, same) = plan_of t (subst (All IsUngrouped) e none) in
    let good = whole_apart parts nodes each fit keep t e in
    (plan, e ∙ ap short_nodes_of same, (good_plan parts plan (below (length parts)) (subst (IsGoodDownTo parts (below (length parts))) same good)).1)

-- ---- groups

-- a set within w is stuck
record HasStuck (parts : List Part) (w : PartSet) : Type 0 where
  pub a : PartSet
  pub stuck : IsStuck parts a
  pub within : IsSubset a w

some_group : (parts : List Part) (t : GroupedPlan) (w : PartSet) → IsGoodDownTo parts w t → All IsUngrouped (short_nodes_of t) ⊎ HasStuck parts w
some_group parts (part_alone p) w h = inl (All-cons IsUngrouped (Leaf p) [] tt (All-nil IsUngrouped))
some_group parts (grouped holds) w h = inr (record { a = w; stuck = h.stuck; within = λ p q. q })
some_group parts (taken_apart d m r) w (s, (u, (is, apart, free, moved, rest))) = go (some_group parts m s moved) (some_group parts r u rest)
  where
    go : All IsUngrouped (short_nodes_of m) ⊎ HasStuck parts s → All IsUngrouped (short_nodes_of r) ⊎ HasStuck parts u → All IsUngrouped (short_nodes_of (taken_apart d m r)) ⊎ HasStuck parts w
    go (inl a) (inl b) = inl (All-cons IsUngrouped (Split d) (short_nodes_of m ++ short_nodes_of r) tt (All-append IsUngrouped (short_nodes_of m) (short_nodes_of r) a b))
    go (inl a) (inr b) = inr (record { a = b.a; stuck = b.stuck; within = λ p h. subst (λ x. Has x p) (sym is) ((has-union s u p).1 (inr (b.within p h))) })
    go (inr a) b = inr (record { a = a.a; stuck = a.stuck; within = λ p h. subst (λ x. Has x p) (sym is) ((has-union s u p).1 (inl (a.within p h))) })

pub refusal_shown : (parts : List Part) (nodes : List ShortNode) → All IsPart parts → AreFitNodes nodes → KeepNodeRules parts nodes → (All IsUngrouped nodes → ⊥) → IsRefusalByNodes parts nodes
refusal_shown parts nodes each fit keep some =
    let (t, e) = fit.one in
    let good = whole_apart parts nodes each fit keep t e in
    (t, e, good, λ plan is. ⊎_elim {C = ⊥} (λ none. some (subst (All IsUngrouped) (sym e) none)) (λ h. restrict_lemma parts h.a h.stuck plan (below (length parts)) h.within is) (some_group parts t (below (length parts)) good))

-- ---- a stuck set

pub stuck_shown : (parts : List Part) (holds : List Hold) → All IsPart parts → AreHoldsInOrder holds → AllKeep parts holds → ((w : PartSet) × IsStuckGroup parts w holds) × HasNoPlan parts
stuck_shown parts holds each order keep =
    let (w, group) = stuck_group parts holds each order keep in
    ((w, group), λ plan is. restrict_lemma parts w group.stuck plan (below (length parts)) (λ p h. (has-below (length parts) p).1 (part p ((group.members p).0 h))) is)
  where
    part : (p : ℕ) → IsJoinedLast parts holds p → p < length parts
    part p j =
        let named = place_within (names_before parts holds j.k) p j.joined.name j.joined.named in
        let long = names_after_length (own_names (length parts)) (take j.k holds) ∙ length-range_with_len 0 (length parts) in
        omega (arith, named, long)
