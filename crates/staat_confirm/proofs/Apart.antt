-- What takes all parts apart down to its groups keeps the rules of its nodes.
use Rattle.std.proofs.Common.{◌≡◌, ◌↔◌, ℕ, zero, suc, ◌+◌, ◌-◌, ◌<◌, ◌≤◌, List, [], ◌∷◌, ◌++◌, length, drop, inl, inr, ⊎_elim, refl, sym, ap, subst, ◌∙◌, arith, append_assoc}
use Rattle.std.specs.Prelude.{slice_get}
use Rattle.std.specs.FinSet as set
use Rattle.staat_vec.specs.declared.vector.V3.{V3}
use Rattle.staat_model.specs.declared.assembly.Part.{Part}
use Rattle.staat_model.specs.declared.set.PartSet.{PartSet}
use Rattle.staat_model.specs.Sets.{Has, below}
use Rattle.staat_model.proofs.SetBits.{has-below}
use Rattle.staat_model.proofs.SetMembers.{has-single, has-union}
use Rattle.staat_short.specs.declared.short.ShortNode.{ShortNode}
use Rattle.staat_short.specs.declared.short.ShortNode.TheVariants.{Leaf, Split, Group}
use Rattle.staat_short.specs.ShortTexts.{GroupedPlan, grouped, part_alone, short_nodes_of, taken_apart}
use Rattle.staat_confirm.specs.Members.{AreMembersOnce, IsMemberAt, IsMemberOf, StandsAt}
use Rattle.staat_confirm.specs.ShortVerdicts.{IsGoodDownTo}
use Rattle.staat_confirm.specs.Splits.{AreClearSplits, IsClearSplit}
use Rattle.staat_confirm.proofs.Standing.{one_stands, some_stands, stands_within, whole_stands}
use Rattle.staat_vec.proofs.Naturals.{lt_or_le}
use Rattle.staat_vec.proofs.Options.{some_injective}
use Rattle.staat_vec.proofs.ListLaws.{get_front}

-- ---- places of two lists

get_back : {X : Type 0} (xs ys : List X) (k : ℕ) → slice_get (xs ++ ys) (length xs + k) ≡ slice_get ys k
get_back [] ys k = ap (slice_get ys) (let e : 0 + k ≡ k = omega arith in e)
get_back (x ∷ xs) ys k = ap (slice_get (x ∷ (xs ++ ys))) (let e : suc (length xs) + k ≡ suc (length xs + k) = omega arith in e) ∙ get_back xs ys k

get_before : {X : Type 0} (xs ys : List X) (k : ℕ) → k < length xs → slice_get (xs ++ ys) k ≡ slice_get xs k
get_before [] ys k lt = absurd (omega (arith, lt))
get_before (x ∷ xs) ys zero lt = refl
get_before (x ∷ xs) ys (suc k) lt = get_before xs ys k (omega (arith, lt))

drop_before : {X : Type 0} (xs ys : List X) (k : ℕ) → k < length xs → drop k (xs ++ ys) ≡ drop k xs ++ ys
drop_before [] ys k lt = absurd (omega (arith, lt))
drop_before (x ∷ xs) ys zero lt = refl
drop_before (x ∷ xs) ys (suc k) lt = drop_before xs ys k (omega (arith, lt))

drop_back : {X : Type 0} (xs ys : List X) (k : ℕ) → drop (length xs + k) (xs ++ ys) ≡ drop k ys
drop_back [] ys k = ap (λ m. drop m ys) (let e : 0 + k ≡ k = omega arith in e)
drop_back (x ∷ xs) ys k = ap (λ m. drop m (x ∷ (xs ++ ys))) (let e : suc (length xs) + k ≡ suc (length xs + k) = omega arith in e) ∙ drop_back xs ys k

-- ---- members of two lists

module _ (parts : List Part) where
  in_front : (xs ys : List ShortNode) (k p : ℕ) → IsMemberAt parts xs k p → IsMemberAt parts (xs ++ ys) k p
  in_front xs ys k p h = record { node = h.node; at = get_front xs ys k h.node h.at; member = h.member }

  in_back : (xs ys : List ShortNode) (k p : ℕ) → IsMemberAt parts ys k p → IsMemberAt parts (xs ++ ys) (length xs + k) p
  in_back xs ys k p h = record { node = h.node; at = get_back xs ys k ∙ h.at; member = h.member }

  -- the member is one of the first list, or of the second
  data IsOnSide (xs ys : List ShortNode) (k p : ℕ) : Type 0 where
    of_front : k < length xs → IsMemberAt parts xs k p → IsOnSide xs ys k p
    of_back : (j : ℕ) → k ≡ length xs + j → IsMemberAt parts ys j p → IsOnSide xs ys k p

  on_side : (xs ys : List ShortNode) (k p : ℕ) → IsMemberAt parts (xs ++ ys) k p → IsOnSide xs ys k p
  on_side xs ys k p h = ⊎_elim {C = IsOnSide xs ys k p}
      (λ lt. of_front lt (record { node = h.node; at = sym (get_before xs ys k lt) ∙ h.at; member = h.member }))
      (λ ge. let e : k ≡ length xs + (k - length xs) = omega (arith, ge) in
      of_back (k - length xs) e (record { node = h.node; at = sym (get_back xs ys (k - length xs)) ∙ ap (slice_get (xs ++ ys)) (sym e) ∙ h.at; member = h.member }))
      (lt_or_le k (length xs))

  -- ---- the members of a plan are those of its set, each of one node

  record AreMembersOf (w : PartSet) (nodes : List ShortNode) : Type 0 where
    pub each : (k p : ℕ) → IsMemberAt parts nodes k p → Has w p
    pub all : (p : ℕ) → Has w p → (k : ℕ) × IsMemberAt parts nodes k p
    pub once : (k m p : ℕ) → IsMemberAt parts nodes k p → IsMemberAt parts nodes m p → k ≡ m

  first_alone : (node : ShortNode) (k p : ℕ) → IsMemberAt parts (node ∷ []) k p → (k ≡ 0) × IsMemberOf parts node p
  first_alone node zero p h = (refl, subst (λ x. IsMemberOf parts x p) (some_injective h.node node (sym h.at)) h.member)
  first_alone node (suc k) p h = let wrong = h.at in cc

  one_node : (w : PartSet) (node : ShortNode) → ((p : ℕ) → Has w p ↔ IsMemberOf parts node p) → AreMembersOf w (node ∷ [])
  one_node w node is = record {
    each = λ k p h. (is p).1 (first_alone node k p h).1;
    all = λ p h. (0, record { node = node; at = refl; member = (is p).0 h });
    once = λ k m p a b. (first_alone node k p a).0 ∙ sym (first_alone node m p b).0;
  }

  -- a split has no members
  not_first : (d : V3) (nodes : List ShortNode) (p : ℕ) → IsMemberAt parts (Split d ∷ nodes) 0 p → ⊥
  not_first d nodes p h = subst (λ x. IsMemberOf parts x p) (some_injective h.node (Split d) (sym h.at)) h.member

  behind : (d : V3) (nodes : List ShortNode) (k p : ℕ) → IsMemberAt parts (Split d ∷ nodes) k p → (j : ℕ) × (k ≡ suc j) × IsMemberAt parts nodes j p
  behind d nodes zero p h = absurd (not_first d nodes p h)
  behind d nodes (suc k) p h = (k, refl, record { node = h.node; at = h.at; member = h.member })

  after : (d : V3) (nodes : List ShortNode) (k p : ℕ) → IsMemberAt parts nodes k p → IsMemberAt parts (Split d ∷ nodes) (suc k) p
  after d nodes k p h = record { node = h.node; at = h.at; member = h.member }

  module _ (d : V3) (xs ys : List ShortNode) (s r : PartSet) (apart : Rattle.staat_model.specs.Sets.AreApart s r) (first : AreMembersOf s xs) (second : AreMembersOf r ys) where
    each_side : (k p : ℕ) → IsOnSide xs ys k p → Has (set.union s r) p
    each_side k p (of_front lt h) = (has-union s r p).1 (inl (first.each k p h))
    each_side k p (of_back j e h) = (has-union s r p).1 (inr (second.each j p h))

    one_side : (k m p : ℕ) → IsOnSide xs ys k p → IsOnSide xs ys m p → k ≡ m
    one_side k m p (of_front lt h) (of_front lt' h') = first.once k m p h h'
    one_side k m p (of_front lt h) (of_back j e h') = absurd (apart p (first.each k p h) (second.each j p h'))
    one_side k m p (of_back j e h) (of_front lt' h') = absurd (apart p (first.each m p h') (second.each j p h))
    one_side k m p (of_back j e h) (of_back j' e' h') = e ∙ ap (λ i. length xs + i) (second.once j j' p h h') ∙ sym e'

    both_sides : AreMembersOf (set.union s r) (Split d ∷ (xs ++ ys))
    both_sides = record {
      each = λ k p h. let (j, e, at) = behind d (xs ++ ys) k p h in each_side j p (on_side xs ys j p at);
      all = λ p h. ⊎_elim {C = (k : ℕ) × IsMemberAt parts (Split d ∷ (xs ++ ys)) k p}
          (λ a. let (k, at) = first.all p a in (suc k, after d (xs ++ ys) k p (in_front xs ys k p at)))
          (λ b. let (k, at) = second.all p b in (suc (length xs + k), after d (xs ++ ys) (length xs + k) p (in_back xs ys k p at)))
          ((has-union s r p).0 h);
      once = λ k m p a b.
          let (i, e, at) = behind d (xs ++ ys) k p a in
          let (j, f, to) = behind d (xs ++ ys) m p b in
          e ∙ ap suc (one_side i j p (on_side xs ys i p at) (on_side xs ys j p to)) ∙ sym f;
    }

  members_of : (t : GroupedPlan) (w : PartSet) → IsGoodDownTo parts w t → AreMembersOf w (short_nodes_of t)
  members_of (part_alone q) w good = subst (λ v. AreMembersOf v (Leaf q ∷ [])) (sym good) (one_node (Rattle.staat_model.specs.Sets.single q) (Leaf q) (λ p. ((has-single q p).0, (has-single q p).1)))
  members_of (grouped holds) w good = one_node w (Group holds) good.members
  members_of (taken_apart d m r) w (a, (b, (is, apart, free, first, second))) =
      subst (λ v. AreMembersOf v (Split d ∷ (short_nodes_of m ++ short_nodes_of r))) (sym is)
      (both_sides d (short_nodes_of m) (short_nodes_of r) a b apart (members_of m a first) (members_of r b second))

  pub members_once : (t : GroupedPlan) → IsGoodDownTo parts (below (length parts)) t → AreMembersOnce parts (short_nodes_of t)
  members_once t good =
      let are = members_of t (below (length parts)) good in record {
        each = λ k p h. (has-below (length parts) p).0 (are.each k p h);
        all = λ p lt. are.all p ((has-below (length parts) p).1 lt);
        once = are.once;
      }

  -- ---- splits

  -- a plan that stands among the nodes of the first list and others stands among those of the first
  stands_front : (t u : GroupedPlan) (ys : List ShortNode) (k : ℕ) → k < length (short_nodes_of t) → StandsAt (short_nodes_of t ++ ys) k u → StandsAt (short_nodes_of t) k u
  stands_front t u ys k lt at =
      let (v, here) = some_stands (short_nodes_of t) k (t, refl) lt in
      let there : StandsAt (short_nodes_of t ++ ys) k v = record {
        more = here.more ++ ys;
        is = drop_before (short_nodes_of t) ys k lt ∙ ap (λ l. l ++ ys) here.is ∙ append_assoc (short_nodes_of v) here.more ys;
      } in
      subst (StandsAt (short_nodes_of t) k) (one_stands (short_nodes_of t ++ ys) k v u there at) here

  stands_back : (xs ys : List ShortNode) (u : GroupedPlan) (k : ℕ) → length xs ≤ k → StandsAt (xs ++ ys) k u → StandsAt ys (k - length xs) u
  stands_back xs ys u k ge at = record {
    more = at.more;
    is = sym (drop_back xs ys (k - length xs)) ∙ ap (λ m. drop m (xs ++ ys)) (let e : length xs + (k - length xs) ≡ k = omega (arith, ge) in e) ∙ at.is;
  }

  clear_first : (d : V3) (m r : GroupedPlan) (w : PartSet) → IsGoodDownTo parts w (taken_apart d m r) → IsClearSplit parts d m r
  clear_first d m r w (a, (b, (is, apart, free, first, second))) = record {
    moves = free.moves;
    clear = λ arc h.
        let (k, from) = h.from in
        let (j, to) = h.to in
        free.clear arc ((members_of m a first).each k arc.a from) ((members_of r b second).each j arc.b to) h.meets;
  }

  same_split : (d d' : V3) (m m' r r' : GroupedPlan) → taken_apart d m r ≡ taken_apart d' m' r' → IsClearSplit parts d m r → IsClearSplit parts d' m' r'
  same_split d d' m m' r r' e clear =
      let ds : d ≡ d' = cc in
      let ms : m ≡ m' = cc in
      let rs : r ≡ r' = cc in
      subst (λ x. IsClearSplit parts x m' r') ds (subst (λ x. IsClearSplit parts d x r') ms (subst (λ x. IsClearSplit parts d m x) rs clear))

  clear_within : (t : GroupedPlan) (w : PartSet) → IsGoodDownTo parts w t → (k : ℕ) (d : V3) (m r : GroupedPlan) → StandsAt (short_nodes_of t) k (taken_apart d m r) → IsClearSplit parts d m r
  clear_within (part_alone p) w good zero d m r at =
      let wrong : part_alone p ≡ taken_apart d m r = one_stands (short_nodes_of (part_alone p)) 0 (part_alone p) (taken_apart d m r) (whole_stands (short_nodes_of (part_alone p)) (part_alone p) refl) at in absurd cc
  clear_within (part_alone p) w good (suc k) d m r at = let lt = stands_within (short_nodes_of (part_alone p)) (suc k) (taken_apart d m r) at in absurd (omega (arith, lt))
  clear_within (grouped holds) w good zero d m r at =
      let wrong : grouped holds ≡ taken_apart d m r = one_stands (short_nodes_of (grouped holds)) 0 (grouped holds) (taken_apart d m r) (whole_stands (short_nodes_of (grouped holds)) (grouped holds) refl) at in absurd cc
  clear_within (grouped holds) w good (suc k) d m r at = let lt = stands_within (short_nodes_of (grouped holds)) (suc k) (taken_apart d m r) at in absurd (omega (arith, lt))
  clear_within (taken_apart d' m' r') w good zero d m r at =
      let t = taken_apart d' m' r' in
      same_split d' d m' m r' r (one_stands (short_nodes_of t) 0 t (taken_apart d m r) (whole_stands (short_nodes_of t) t refl) at) (clear_first d' m' r' w good)
  clear_within (taken_apart d' m' r') w (a, (b, (is, apart, free, first, second))) (suc k) d m r at =
      let rest : StandsAt (short_nodes_of m' ++ short_nodes_of r') k (taken_apart d m r) = record { more = at.more; is = at.is } in
      ⊎_elim {C = IsClearSplit parts d m r}
      (λ lt. clear_within m' a first k d m r (stands_front m' (taken_apart d m r) (short_nodes_of r') k lt rest))
      (λ ge. clear_within r' b second (k - length (short_nodes_of m')) d m r (stands_back (short_nodes_of m') (short_nodes_of r') (taken_apart d m r) k ge rest))
      (lt_or_le k (length (short_nodes_of m')))

  pub clear_splits : (t : GroupedPlan) (w : PartSet) → IsGoodDownTo parts w t → AreClearSplits parts (short_nodes_of t)
  clear_splits t w good k lt d m r at = clear_within t w good k d m r at
