-- The members of nodes, one node after another.
use Rattle.std.proofs.Common.{◌≡◌, ◌⊎◌, ◌↔◌, ℕ, ◌+◌, ◌<◌, ◌≤◌, List, [], ◌∷◌, ◌++◌, length, get_or, take, drop, append-nil, inl, inr, ⊎_elim, sym, ap, subst, ◌∙◌, arith, Contains}
use Rattle.std.specs.Prelude.{Option, Some, slice_get}
use Rattle.std.specs.Cmp.{nat_cmp_is}
use Rattle.std.specs.List.Sorted.{IsStrictlySortedBy}
use Rattle.std.specs.Ordering.{nat_cmp}
use Rattle.std.specs.declared.cmp.Ordering.TheVariants.{Less}
use Rattle.std.proofs.lemmas.Bool.{cases_eq}
use Rattle.std.proofs.lemmas.List.Elements.{Contains-append_left, Contains-push, Contains-push_cases}
use Rattle.std.proofs.lemmas.Option.{slice_get-get_or}
use Rattle.staat_vec.specs.Lists.{Lists}
use Rattle.staat_model.specs.declared.assembly.Part.{Part}
use Rattle.staat_model.proofs.Places.{place_within}
use Rattle.staat_holds.specs.declared.hold.Hold.{Hold}
use Rattle.staat_holds.specs.Chains.{IsJoinedLast}
use Rattle.staat_short.specs.declared.short.ShortNode.{ShortNode}
use Rattle.staat_short.specs.declared.short.ShortNode.TheVariants.{Group}
use Rattle.staat_confirm.specs.Members.{AreMembersOnce, IsBadMember, IsMemberAt, IsMemberFault, IsMemberOf, bad_member, missing_member}
use Rattle.staat_confirm.specs.Owners.{AreAllOwned, AreOwners, IsOwnedWithin, IsOwner, IsTakenElsewhere, IsUnowned, RefusesSome, TakesAll}
use Rattle.staat_confirm.proofs.Lists.{take_cases}
use Rattle.staat_vec.proofs.Comparisons.{sorted_push_less}
use Rattle.staat_vec.proofs.Options.{some_injective}
use Rattle.staat_vec.proofs.ListLaws.{drop_end}
use Rattle.staat_vec.proofs.Naturals.{trichotomy}

-- ---- some members more

pub takes_more : (xs : List ℕ) (i d node : ℕ) (old now new : List (Option ℕ)) → i < length xs → TakesAll (Contains (take i xs)) node old now → TakesAll (λ q. q ≡ get_or xs i d) node now new → TakesAll (Contains (take (i + 1) xs)) node old new
takes_more xs i d node old now new lt before one p k = (
  λ h. ⊎_elim {C = IsOwner old p k ⊎ (Contains (take (i + 1) xs) p × (k ≡ node))}
      (λ o. ⊎_elim {C = IsOwner old p k ⊎ (Contains (take (i + 1) xs) p × (k ≡ node))} (λ a. inl a) (λ b. inr (subst (λ ys. Contains ys p) (sym more) (Contains-append_left (take i xs) (get_or xs i d ∷ []) p b.0), b.1)) ((before p k).0 o))
      (λ n. inr (subst (λ q. Contains (take (i + 1) xs) q) (sym n.0) (subst (λ ys. Contains ys (get_or xs i d)) (sym more) (Contains-push (take i xs) (get_or xs i d))), n.1))
      ((one p k).0 h),
  λ h. ⊎_elim {C = IsOwner new p k} (λ o. (one p k).1 (inl ((before p k).1 (inl o))))
      (λ n. ⊎_elim {C = IsOwner new p k} (λ c. (one p k).1 (inl ((before p k).1 (inr (c, n.1))))) (λ e. (one p k).1 (inr (sym e, n.1))) (take_cases xs i d p lt n.0)) h,
)
  where
    more : take (i + 1) xs ≡ take i xs ++ get_or xs i d ∷ []
    more = Rattle.std.proofs.lemmas.List.take_more xs i d lt

pub takes_end : (xs : List ℕ) (i node : ℕ) (old new : List (Option ℕ)) → length xs ≤ i → TakesAll (Contains (take i xs)) node old new → TakesAll (Contains xs) node old new
takes_end xs i node old new le h = subst (λ ys. TakesAll (Contains ys) node old new) (Rattle.std.proofs.lemmas.List.take_all i xs le) h

pub refused_more : (M : ℕ → Type 0) (node p : ℕ) (old now : List (Option ℕ)) → length now ≡ length old → TakesAll M node old now → IsTakenElsewhere now p node → IsTakenElsewhere old p node
refused_more M node p old now same takes refused = ⊎_elim {C = IsTakenElsewhere old p node}
    (λ high. inl (omega (arith, same, high)))
    (λ other. let (k, o, ne) = other in ⊎_elim {C = IsTakenElsewhere old p node} (λ a. inr (k, a, ne)) (λ b. absurd (ne b.1)) ((takes p k).0 o))
    refused

-- ---- some nodes more

pub one_owner : (owners : List (Option ℕ)) (p j k : ℕ) → IsOwner owners p j → IsOwner owners p k → j ≡ k
one_owner owners p j k a b = let e : Some (Some j) ≡ Some (Some k) = sym a ∙ b in cc

pub owners_next : (parts : List Part) (nodes : List ShortNode) (k : ℕ) (node : ShortNode) (old new : List (Option ℕ)) → slice_get nodes k ≡ Some node → length new ≡ length old → AreOwners parts nodes k old → TakesAll (IsMemberOf parts node) k old new → AreOwners parts nodes (k + 1) new
owners_next parts nodes k node old new at same are takes = record {
  count = same ∙ are.count;
  are = λ p m. (
    λ o. ⊎_elim {C = (m < k + 1) × IsMemberAt parts nodes m p}
        (λ a. let b = (are.are p m).0 a in (let lt = b.0 in omega (arith, lt), b.1))
        (λ n. (let e = n.1 in omega (arith, e), subst (λ j. IsMemberAt parts nodes j p) (sym n.1) (record { node = node; at = at; member = n.0 })))
        ((takes p m).0 o),
    λ h. ⊎_elim {C = IsOwner new p m}
        (λ e. (takes p m).1 (inr (subst (λ x. IsMemberOf parts x p) (some_injective h.1.node node (sym h.1.at ∙ subst (λ j. slice_get nodes j ≡ Some node) (sym e) at)) h.1.member, e)))
        (λ ne. (takes p m).1 (inl ((are.are p m).1 (let lt = h.0 in omega (arith, lt, ne), h.1)))) (cases_eq m k),
  );
}

-- the nodes before have no bad members
pub none_bad : (parts : List Part) (nodes : List ShortNode) (n k : ℕ) (owners : List (Option ℕ)) → AreOwners parts nodes n owners → k < n → IsBadMember parts nodes k → ⊥
none_bad parts nodes n k owners are lt bad =
    let o = (are.are bad.part k).1 (lt, bad.member) in
    let within = place_within owners bad.part (Some k) o in
    let count = are.count in
    ⊎_elim {C = ⊥} (λ high. omega (arith, within, high, count))
    (λ twice. let (m, m_lt, h) = twice in let e = one_owner owners bad.part m k ((are.are bad.part m).1 (omega (arith, m_lt, lt), h)) o in omega (arith, m_lt, e)) bad.bad

pub member_fault : (parts : List Part) (nodes : List ShortNode) (k : ℕ) (node : ShortNode) (owners : List (Option ℕ)) → slice_get nodes k ≡ Some node → AreOwners parts nodes k owners → RefusesSome (IsMemberOf parts node) k owners → IsMemberFault parts nodes k
member_fault parts nodes k node owners at are (p, member, refused) = bad_member (record {
  has = record {
    part = p;
    member = here;
    bad = ⊎_elim {C = (length parts ≤ p) ⊎ ((m : ℕ) × (m < k) × IsMemberAt parts nodes m p)} (λ high. let count = are.count in inl (omega (arith, high, count)))
        (λ other. let (m, o, ne) = other in let h = (are.are p m).0 o in inr (m, h.0, h.1)) refused;
  };
  least = λ m bad. ⊎_elim {C = (m ≡ k) ⊎ (nat_cmp k m ≡ Less)} (λ lt. absurd (none_bad parts nodes k m owners are lt bad))
      (λ r. ⊎_elim {C = (m ≡ k) ⊎ (nat_cmp k m ≡ Less)} (λ e. inl e) (λ gt. inr (sym (nat_cmp_is k m Less gt))) r) (trichotomy m k);
})
  where
    here : IsMemberAt parts nodes k p
    here = record { node = node; at = at; member = member }

pub members_once : (parts : List Part) (nodes : List ShortNode) (owners : List (Option ℕ)) → AreOwners parts nodes (length nodes) owners → AreAllOwned owners → AreMembersOnce parts nodes
members_once parts nodes owners are all = record {
  each = λ k p h. let within = place_within owners p (Some k) (owned k p h) in let count = are.count in omega (arith, within, count);
  all = λ p lt. let (k, o) = all p (let count = are.count in omega (arith, lt, count)) in (k, ((are.are p k).0 o).1);
  once = λ k m p a b. one_owner owners p k m (owned k p a) (owned m p b);
}
  where
    owned : (k p : ℕ) → IsMemberAt parts nodes k p → IsOwner owners p k
    owned k p h = (are.are p k).1 (place_within nodes k h.node h.at, h)

pub members_missing : (parts : List Part) (nodes : List ShortNode) (owners : List (Option ℕ)) (p k : ℕ) → k ≡ length nodes → AreOwners parts nodes (length nodes) owners → IsUnowned owners p → IsMemberFault parts nodes k
members_missing parts nodes owners p k e are (lt, none) = missing_member
    (λ m bad. none_bad parts nodes (length nodes) m owners are (place_within nodes m bad.member.node bad.member.at) bad)
    (record { part = p; exists = let count = are.count in omega (arith, lt, count); missing = λ m h. none m ((are.are p m).1 (place_within nodes m h.node h.at, h)) })
    e

-- ---- the parts of some nodes, one part after another

push_each : (P : ℕ → Type 0) (xs : List ℕ) (x : ℕ) → Rattle.std.specs.List.AllByRecursion P xs → P x → Rattle.std.specs.List.AllByRecursion P (xs ++ x ∷ [])
push_each P [] x all p = (p, tt)
push_each P (y ∷ ys) x all p = (all.0, push_each P ys x all.1 p)

-- what has P, of the numbers below k
abbrev pub HasBelow : (P : ℕ → Type 0) → (k p : ℕ) → Type 0
HasBelow P k p = (p < k) × P p

pub lists_begin : (P : ℕ → Type 0) → Lists nat_cmp (HasBelow P 0) []
unfolding IsStrictlySortedBy
lists_begin P = record { ascending = tt; each = λ p (k, lt, e). absurd (omega (arith, lt)); all = λ p h. absurd (let lt = h.0 in omega (arith, lt)) }

pub lists_more : (P : ℕ → Type 0) (k : ℕ) (s : List ℕ) → P k → Lists nat_cmp (HasBelow P k) s → Lists nat_cmp (HasBelow P (k + 1)) (s ++ k ∷ [])
lists_more P k s has is = record {
  ascending = sorted_push_less s k is.ascending (λ y c. let h = is.each y c in sym (nat_cmp_is y k Less h.0));
  each = λ p h. ⊎_elim {C = HasBelow P (k + 1) p} (λ old. let b = is.each p old in (let less = b.0 in omega (arith, less), b.1))
      (λ new. (omega (arith, new), subst P new has)) (Contains-push_cases s k p h);
  all = λ p h. ⊎_elim {C = Contains (s ++ k ∷ []) p} (λ e. subst (Contains (s ++ k ∷ [])) (sym e) (Contains-push s k))
      (λ other. Contains-append_left s (k ∷ []) p (is.all p (let less = h.0 in omega (arith, less, other), h.1))) (cases_eq p k);
}

pub lists_same : (P : ℕ → Type 0) (k : ℕ) (s : List ℕ) → (P k → ⊥) → Lists nat_cmp (HasBelow P k) s → Lists nat_cmp (HasBelow P (k + 1)) s
lists_same P k s off is = record {
  ascending = is.ascending;
  each = λ p c. let b = is.each p c in (let less = b.0 in omega (arith, less), b.1);
  all = λ p h. ⊎_elim {C = Contains s p} (λ e. absurd (off (subst P e h.1))) (λ other. is.all p (let less = h.0 in omega (arith, less, other), h.1)) (cases_eq p k);
}

pub lists_end : (P : ℕ → Type 0) (k : ℕ) (s : List ℕ) → ((p : ℕ) → P p → p < k) → Lists nat_cmp (HasBelow P k) s → Lists nat_cmp P s
lists_end P k s below is = record { ascending = is.ascending; each = λ p c. (is.each p c).1; all = λ p h. is.all p (below p h, h) }

-- the owner of a part is one of the nodes, or it is not
abbrev pub IsOneWithin : Option ℕ → (from end : ℕ) → Type 0
IsOneWithin owner from end = (node : ℕ) × (owner ≡ Some node) × (from ≤ node) × (node < end)

pub owned_yes : (owners : List (Option ℕ)) (from end k : ℕ) (d : Option ℕ) → k < length owners → IsOneWithin (get_or owners k d) from end → IsOwnedWithin owners from end k
owned_yes owners from end k d lt (node, e, low, high) = record { node = node; owner = slice_get-get_or owners k d lt ∙ ap Some e; low = low; high = high }

pub owned_no : (owners : List (Option ℕ)) (from end k : ℕ) (d : Option ℕ) → k < length owners → (IsOneWithin (get_or owners k d) from end → ⊥) → IsOwnedWithin owners from end k → ⊥
owned_no owners from end k d lt not h = not (h.node, some_injective (get_or owners k d) (Some h.node) (sym (slice_get-get_or owners k d lt) ∙ h.owner), h.low, h.high)

pub owned_below : (owners : List (Option ℕ)) (from end k : ℕ) → length owners ≤ k → (p : ℕ) → IsOwnedWithin owners from end p → p < k
owned_below owners from end k le p h = let lt = place_within owners p (Some h.node) h.owner in omega (arith, lt, le)

-- what was written back to a list of the same length
pub take_back : {X : Type 0} (n : ℕ) (new items : List X) → length new ≡ length items → n ≡ length items → take n (new ++ drop (length new) items) ≡ new
take_back n new items same is =
    ap (λ ys. take n (new ++ ys)) (drop_end items (length new) (omega (arith, same))) ∙ ap (take n) (append-nil new)
    ∙ Rattle.std.proofs.lemmas.List.take_all n new (omega (arith, same, is))

pub owners_written : (parts : List Part) (nodes : List ShortNode) (k n : ℕ) (node : ShortNode) (items old new : List (Option ℕ)) → k < length nodes → node ≡ get_or nodes k node → old ≡ items → length new ≡ length old → n ≡ length items → AreOwners parts nodes k items
    → TakesAll (IsMemberOf parts node) k old new → AreOwners parts nodes (k + 1) (take n (new ++ drop (length new) items))
owners_written parts nodes k n node items old new lt is now same long are takes =
    let e = ap length now in
    subst (AreOwners parts nodes (k + 1)) (sym (take_back n new items (omega (arith, same, e)) long))
    (owners_next parts nodes k node old new (slice_get-get_or nodes k node lt ∙ ap Some (sym is)) same (subst (AreOwners parts nodes k) (sym now) are) takes)

pub group_members : (parts : List Part) (holds hs : List Hold) (node : ShortNode) (members now : List ℕ) → node ≡ Group holds → hs ≡ holds → now ≡ members → Lists nat_cmp (IsJoinedLast parts hs) members → (q : ℕ) → Contains now q ↔ IsMemberOf parts node q
group_members parts holds hs node members now is same at lists q =
    let l = subst (λ h. Lists nat_cmp (IsJoinedLast parts h) members) same lists in
    subst (λ n. Contains now q ↔ IsMemberOf parts n q) (sym is) (λ c. l.each q (subst (λ ys. Contains ys q) at c), λ j. subst (λ ys. Contains ys q) (sym at) (l.all q j))

pub takes_same : (M N : ℕ → Type 0) (node : ℕ) (old new : List (Option ℕ)) → ((q : ℕ) → M q ↔ N q) → TakesAll M node old new → TakesAll N node old new
takes_same M N node old new same takes p k = (
  λ h. ⊎_elim {C = IsOwner old p k ⊎ (N p × (k ≡ node))} (λ a. inl a) (λ b. inr ((same p).0 b.0, b.1)) ((takes p k).0 h),
  λ h. (takes p k).1 (⊎_elim {C = IsOwner old p k ⊎ (M p × (k ≡ node))} (λ a. inl a) (λ b. inr ((same p).1 b.0, b.1)) h),
)
