-- The nodes that there are once a hold has joined some of them.
use Rattle.std.proofs.Common.{◌≡◌, ◌⊎◌, ◌↔◌, ℕ, ◌+◌, ◌<◌, ◌≤◌, List, [], ◌∷◌, ◌++◌, length, get_or, map, take, ⊎_elim, refl, sym, ap, subst, ◌∙◌, arith, All, Contains, length-append}
use Rattle.std.specs.Prelude.{Some, slice_get}
use Rattle.std.proofs.lemmas.List.{length-map, take-append-le, take_all}
use Rattle.std.proofs.lemmas.Bool.{cases_eq}
use Rattle.std.proofs.lemmas.List.Elements.{All-append, All-contains, All-head, All-nil, All-push, All-tail, All-weaker}
use Rattle.std.proofs.lemmas.Map.Keys.{below_from_sorted}
use Rattle.std.proofs.lemmas.Option.{get_or_from_slice_get, slice_get-get_or}
use Rattle.staat_vec.proofs.Unique.{Contains-cases, Contains-nothing, Contains-front, from_place}
use Rattle.staat_model.specs.declared.assembly.Part.{Part}
use Rattle.staat_model.proofs.Members.{All-from_members}
use Rattle.staat_model.proofs.Places.{place_within, some_at}
use Rattle.staat_holds.specs.declared.hold.Hold.{Hold}
use Rattle.staat_holds.specs.Chains.{IsJoinedLast, IsName, IsOfOne, KeepsHoldRules, joined_name, names_after, names_before, own_names}
use Rattle.staat_holds.specs.Partials.{IsOrderedHold}
use Rattle.staat_holds.proofs.NodeNames.{among_or, first_of, joined_in, joined_out}
use Rattle.staat_rest.specs.Nodes.{AreJoined, AreShown, IsInNode, KeepFrom, NamesOnly, ShowsNode, holds_of}
use Rattle.staat_rest.proofs.NameSteps.{after_append, keep_append, own_count}
use Rattle.staat_rest.proofs.NodeSteps.{holds_keep, name_is}
use Rattle.staat_vec.proofs.ListLaws.{Contains-there, place_of, map_at_place, place_in_map}
use Rattle.staat_vec.proofs.Options.{some_injective}
use Rattle.staat_holds.proofs.ChainLaw.{own_is}
use Rattle.staat_decide.proofs.Holdings.{own_name}

-- ---- the last of some holds

last_at : (holds : List Hold) (hold : Hold) → slice_get (holds ++ hold ∷ []) (length holds) ≡ Some hold
last_at [] hold = refl
last_at (h ∷ holds) hold = last_at holds hold

before_last : (parts : List Part) (holds : List Hold) (hold : Hold) → names_before parts (holds ++ hold ∷ []) (length holds) ≡ names_after (own_names (length parts)) holds
before_last parts holds hold = ap (names_after (own_names (length parts))) (take-append-le (length holds) holds (hold ∷ []) (omega arith) ∙ take_all (length holds) holds (omega arith))

-- the parts that the last of them joins
joined_last : (parts : List Part) (holds : List Hold) (hold : Hold) (p : ℕ) → IsJoinedLast parts (holds ++ hold ∷ []) p ↔ IsOfOne (names_after (own_names (length parts)) holds) hold.nodes p
joined_last parts holds hold p = (
  λ j.
      let last = j.last in
      let long = length-append holds (hold ∷ []) in
      let e : j.k ≡ length holds = omega (arith, last, long) in
      let same : j.hold ≡ hold = some_injective j.hold hold (sym (subst (λ m. slice_get (holds ++ hold ∷ []) m ≡ Some j.hold) e j.at) ∙ last_at holds hold) in
      let first : IsOfOne (names_before parts (holds ++ hold ∷ []) (length holds)) hold.nodes p =
      subst (λ (h : Hold). IsOfOne (names_before parts (holds ++ hold ∷ []) (length holds)) h.nodes p) same
      (subst (λ m. IsOfOne (names_before parts (holds ++ hold ∷ []) m) j.hold.nodes p) e j.joined) in
      subst (λ ns. IsOfOne ns hold.nodes p) (before_last parts holds hold) first,
  λ o. record {
    k = length holds;
    last = let long = length-append holds (hold ∷ []) in omega (arith, long);
    hold = hold;
    at = last_at holds hold;
    joined = subst (λ ns. IsOfOne ns hold.nodes p) (sym (before_last parts holds hold)) o;
  },
)

-- ---- at first each part is a node by itself

pub begin_shown : (parts : List Part) (names : List ℕ) (lists : List (List Hold)) → names ≡ own_names (length parts) → length lists ≡ length parts
    → ((n : ℕ) → get_or lists n [] ≡ []) → AreShown parts names lists
begin_shown parts names lists is many none = subst (λ ns. AreShown parts ns lists) (sym is) shown
  where
    own : All (IsName (own_names (length parts))) (own_names (length parts))
    own = All-from_members (IsName (own_names (length parts))) (own_names (length parts)) (λ n (k, lt, e).
        let long = own_count (length parts) in
        own_name (length parts) n (let same : n ≡ k = own_at k n lt e in omega (arith, same, long, lt)))
      where
        own_at : (k n : ℕ) → k < length (own_names (length parts)) → get_or (own_names (length parts)) k n ≡ n → n ≡ k
        own_at k n lt e = own_is (length parts) k n (slice_get-get_or (own_names (length parts)) k n lt ∙ ap Some e)

    each : (n : ℕ) → ShowsNode parts (own_names (length parts)) n []
    each n = record {
      ordered = All-nil IsOrderedHold;
      keep = tt;
      within = All-nil (λ (hold : Hold). All (IsInNode (own_names (length parts)) n) hold.nodes);
      named = record {
        many = refl;
        joined = λ p m at c. at;
        others = λ p m at off. at ∙ ap Some (own_is (length parts) p m at);
      };
      alone = λ e p at. sym (own_is (length parts) p n at);
      joined = λ some. absurd (omega (arith, some));
    }

    shown : AreShown parts (own_names (length parts)) lists
    shown = record {
      many = own_count (length parts);
      lists_many = many;
      names_are = own;
      each = λ n named. subst (ShowsNode parts (own_names (length parts)) n) (sym (none n)) (each n);
    }

-- ---- a hold more

module _ (parts : List Part) (names : List ℕ) (lists : List (List Hold)) (hold : Hold) (shown : AreShown parts names lists)
    (ordered : IsOrderedHold hold) (two : 2 ≤ length hold.nodes) (named : All (IsName names) hold.nodes)
    (keeps : KeepsHoldRules parts (names_after (own_names (length parts)) (holds_of lists hold.nodes)) hold) where
  abbrev ns : List ℕ
  ns = hold.nodes

  abbrev before : List Hold
  before = holds_of lists ns

  -- the names before the hold
  abbrev now : List ℕ
  now = names_after (own_names (length parts)) before

  abbrev next : List ℕ
  next = map (joined_name ns) names

  some : 1 ≤ length ns
  some = omega (arith, two)

  so_far : KeepFrom parts (own_names (length parts)) before × NamesOnly names ns now
  so_far = holds_keep parts names shown.many shown.names_are lists ns shown.each ordered.nodes named

  -- the first node
  r : ℕ
  r = (first_of ns some).0

  r_in : Contains ns r
  unfolding r
  r_in = (first_of ns some).1

  is_r : (m : ℕ) → get_or ns 0 m ≡ r
  unfolding r
  is_r = (first_of ns some).2

  to_r : (m : ℕ) → Contains ns m → joined_name ns m ≡ r
  to_r m c = joined_in ns m c ∙ is_r m

  name : (p n : ℕ) → IsInNode names n p → IsName names n
  name = name_is names shown.names_are

  -- a part of a node of the hold is one of the first node from then on
  in_next : (p m : ℕ) → IsInNode names m p → Contains ns m → IsInNode next r p
  in_next p m at c = map_at_place (joined_name ns) names p m at ∙ ap Some (to_r m c)

  out_next : (p m : ℕ) → IsInNode names m p → (Contains ns m → ⊥) → IsInNode next m p
  out_next p m at off = map_at_place (joined_name ns) names p m at ∙ ap Some (joined_out ns m off)

  -- a part of the first node was one of a node of the hold
  from_r : (p : ℕ) → IsInNode next r p → (m : ℕ) × IsInNode names m p × Contains ns m
  from_r p h =
      let (m, at, is) = place_in_map (joined_name ns) names p r h in
      ⊎_elim {C = (m : ℕ) × IsInNode names m p × Contains ns m} (λ t. (m, at, t.0))
      (λ t. absurd (t.0 (subst (Contains ns) (sym is ∙ joined_out ns m t.0) r_in))) (among_or ns m)

  -- and a part of another node is one of it still
  from_other : (p n : ℕ) → (n ≡ r → ⊥) → IsInNode next n p → IsInNode names n p × (Contains ns n → ⊥)
  from_other p n ne h =
      let (m, at, is) = place_in_map (joined_name ns) names p n h in
      ⊎_elim {C = IsInNode names n p × (Contains ns n → ⊥)} (λ t. absurd (ne (sym is ∙ to_r m t.0)))
      (λ t. let e : m ≡ n = sym (joined_out ns m t.0) ∙ is in (at ∙ ap Some e, λ c. t.0 (subst (Contains ns) (sym e) c))) (among_or ns m)

  next_names : All (IsName next) next
  next_names = All-from_members (IsName next) next (λ n c.
      let (p, at) = place_of next n c in
      ⊎_elim {C = IsName next n}
      (λ e. subst (IsName next) (sym e) (in_next r r (name_of r r_in) r_in))
      (λ ne. let (of, off) = from_other p n ne at in out_next n n (name p n of) off) (cases_eq n r))
    where
      name_of : (m : ℕ) → Contains ns m → IsName names m
      name_of m c = All-contains (IsName names) ns m named c

  -- the names from then on are some of those before
  pub names_back : (p : ℕ) → IsName next p → IsName names p
  names_back p h = ⊎_elim {C = IsName names p}
      (λ e. subst (IsName names) (sym e) (All-contains (IsName names) ns r named r_in))
      (λ ne. (from_other p p ne h).0) (cases_eq p r)

  -- and the second node has lost its name
  pub name_lost : (q : ℕ) × IsName names q × (IsName next q → ⊥)
  name_lost =
      let (q, at) = some_at ns 1 (omega (arith, two)) in
      let c = from_place ns 1 q at in
      let of = All-contains (IsName names) ns q named c in
      let less = below_from_sorted ns 0 1 0 ordered.nodes (omega arith) (omega (arith, two)) in
      let first = is_r 0 in
      let second = get_or_from_slice_get ns 1 q 0 at in
      (q, of, λ h. let e : r ≡ q = some_injective r q (sym (in_next q q of c) ∙ h) in omega (arith, less, first, second, e))

  -- ---- the first node

  all_ordered : (nodes : List ℕ) → All (IsName names) nodes → All IsOrderedHold (holds_of lists nodes)
  all_ordered [] all = All-nil IsOrderedHold
  all_ordered (n ∷ nodes) all = All-append IsOrderedHold (get_or lists n []) (holds_of lists nodes) (shown.each n (All-head (IsName names) n nodes all)).ordered (all_ordered nodes (All-tail (IsName names) n nodes all))

  abbrev IsInFirst : Hold → Type 0
  IsInFirst h = All (IsInNode next r) h.nodes

  all_within : (nodes : List ℕ) → All (IsName names) nodes → ((n : ℕ) → Contains nodes n → Contains ns n) → All IsInFirst (holds_of lists nodes)
  all_within [] all listed = All-nil IsInFirst
  all_within (n ∷ nodes) all listed =
      let of_n = (shown.each n (All-head (IsName names) n nodes all)).within in
      let here_is : All IsInFirst (get_or lists n []) = All-weaker (λ (h : Hold). All (IsInNode names n) h.nodes) IsInFirst
      (λ h of. All-weaker (IsInNode names n) (IsInNode next r) (λ p at. in_next p n at (listed n (Contains-front n nodes))) h.nodes of) (get_or lists n []) of_n in
      All-append IsInFirst (get_or lists n []) (holds_of lists nodes) here_is (all_within nodes (All-tail (IsName names) n nodes all) (λ m c. listed m (Contains-there n m nodes c)))

  last_within : IsInFirst hold
  last_within = All-from_members (IsInNode next r) ns (λ m c. in_next m m (All-contains (IsName names) ns m named c) c)

  after_last : names_after (own_names (length parts)) (before ++ hold ∷ []) ≡ map (joined_name ns) now
  after_last = after_append (own_names (length parts)) before (hold ∷ [])

  first_named : NamesOnly next (r ∷ []) (map (joined_name ns) now)
  first_named = record {
    many = length-map now (joined_name ns) ∙ so_far.1.many ∙ sym (length-map names (joined_name ns));
    joined = λ p n at c. ⊎_elim {C = slice_get (map (joined_name ns) now) p ≡ Some n}
        (λ e.
        let (m, of, listed) = from_r p (at ∙ ap Some e) in
        map_at_place (joined_name ns) now p m (so_far.1.joined p m of listed) ∙ ap Some (to_r m listed ∙ sym e))
        (λ none. absurd (Contains-nothing n none)) (Contains-cases r [] n c);
    others = λ p n at out.
        let (of, off) = from_other p n (λ e. out (subst (Contains (r ∷ [])) (sym e) (Contains-front r []))) at in
        map_at_place (joined_name ns) now p p (so_far.1.others p n of off) ∙ ap Some (joined_out ns p (λ c.
        off (subst (Contains ns) (some_injective p n (sym (All-contains (IsName names) ns p named c) ∙ of)) c)));
  }

  first_joined : (p : ℕ) → IsOfOne now ns p ↔ IsInNode next r p
  first_joined p = (
    λ o.
        let lt = place_within now p o.name o.named in
        let long = so_far.1.many in
        let (m, at) = some_at names p (omega (arith, lt, long)) in
        ⊎_elim {C = IsInNode next r p} (λ t. in_next p m at t.0)
        (λ t.
        let e : o.name ≡ p = some_injective o.name p (sym o.named ∙ so_far.1.others p m at t.0) in
        let p_in : Contains ns p = subst (Contains ns) e o.listed in
        in_next p p (All-contains (IsName names) ns p named p_in) p_in) (among_or ns m),
    λ h. let (m, at, c) = from_r p h in record { name = m; named = so_far.1.joined p m at c; listed = c },
  )

  first_shows : ShowsNode parts next r (before ++ hold ∷ [])
  first_shows = record {
    ordered = All-push IsOrderedHold before hold (all_ordered ns named) ordered;
    keep = keep_append parts (own_names (length parts)) before (hold ∷ []) so_far.0 (keeps, tt);
    within = All-push IsInFirst before hold (all_within ns named (λ n c. c)) last_within;
    named = subst (NamesOnly next (r ∷ [])) (sym after_last) first_named;
    alone = λ e. let long = ap length e in let longer = length-append before (hold ∷ []) in absurd (omega (arith, long, longer));
    joined = λ some p. (
      λ j. (first_joined p).0 ((joined_last parts before hold p).0 j),
      λ h. (joined_last parts before hold p).1 ((first_joined p).1 h),
    );
  }

  -- ---- another node

  other_shows : (n : ℕ) (holds : List Hold) → (n ≡ r → ⊥) → (Contains ns n → ⊥) → ShowsNode parts names n holds → ShowsNode parts next n holds
  other_shows n holds ne off s = record {
    ordered = s.ordered;
    keep = s.keep;
    within = All-weaker (λ (h : Hold). All (IsInNode names n) h.nodes) (λ (h : Hold). All (IsInNode next n) h.nodes)
        (λ h of. All-weaker (IsInNode names n) (IsInNode next n) (λ p at. out_next p n at off) h.nodes of) holds s.within;
    named = record {
      many = s.named.many ∙ sym (length-map names (joined_name ns));
      joined = λ p m at c. ⊎_elim {C = slice_get (names_after (own_names (length parts)) holds) p ≡ Some m}
          (λ e. let (of, _) = from_other p n ne (at ∙ ap Some e) in s.named.joined p n of (Contains-front n []) ∙ ap Some (sym e))
          (λ none. absurd (Contains-nothing m none)) (Contains-cases n [] m c);
      others = λ p m at out.
          let (q, of, is) = place_in_map (joined_name ns) names p m at in
          s.named.others p q of (λ c. ⊎_elim {C = ⊥}
          (λ e. out (subst (Contains (n ∷ [])) (sym e ∙ sym (joined_out ns q (λ listed. off (subst (Contains ns) e listed))) ∙ is) (Contains-front n [])))
          (λ none. Contains-nothing q none) (Contains-cases n [] q c));
    };
    alone = λ e p at. s.alone e p (from_other p n ne at).0;
    joined = λ some p. (λ j. out_next p n ((s.joined some p).0 j) off, λ at. (s.joined some p).1 (from_other p n ne at).0);
  }

  pub next_shown : (new : List (List Hold)) → AreJoined lists hold new → AreShown parts next new
  next_shown new joined = record {
    many = length-map names (joined_name ns) ∙ shown.many;
    lists_many = joined.many ∙ shown.lists_many;
    names_are = next_names;
    each = λ n is. ⊎_elim {C = ShowsNode parts next n (get_or new n [])}
        (λ e.
        let first : get_or new r [] ≡ before ++ hold ∷ [] = subst (λ m. get_or new m [] ≡ before ++ hold ∷ []) (is_r 0) joined.first in
        subst (λ m. ShowsNode parts next m (get_or new m [])) (sym e) (subst (ShowsNode parts next r) (sym first) first_shows))
        (λ ne.
        let (of, off) = from_other n n ne is in
        subst (ShowsNode parts next n) (sym (joined.others n off)) (other_shows n (get_or lists n []) ne off (shown.each n of))) (cases_eq n r);
  }
