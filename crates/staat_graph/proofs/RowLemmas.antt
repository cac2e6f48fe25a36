-- Rows of marks: their marks as arcs, the walks that they tell, and the groups of parts that reach each other.
use Rattle.std.proofs.Common.{◌≡◌, ◌≢◌, ◌∙◌, ◌⊎◌, ◌↔◌, inl, inr, ⊎_elim, ℕ, zero, suc, ◌+◌, ◌*◌, ◌<◌, ◌≤◌, Bool, true, false, List, [], ◌∷◌, ◌++◌, All, Contains, IsTrue, arith, ap, refl, sym, subst, get_or, length, map}
use Rattle.std.specs.Prelude.{◌/◌, ◌%◌, ◌&&◌, ◌||◌, slice_index}
use Rattle.std.specs.Int.{bit_at}
use Rattle.std.specs.List.Sorted.{IsStrictlySortedBy}
use Rattle.std.specs.Ordering.{nat_cmp}
use Rattle.std.proofs.lemmas.Bool.{false≢true}
use Rattle.std.proofs.lemmas.List.{get_or_past, map-append}
use Rattle.std.proofs.lemmas.List.Elements.{All-push, Contains-append_left, Contains-push, Contains-push_cases}
use Rattle.std.proofs.lemmas.Nat.Bits.{bit_at_lowest, bit_at-suc, bit_at-zero}
use Rattle.staat_vec.specs.Lists.{Lists}
use Rattle.staat_vec.proofs.Unique.{Contains-cases, Contains-nothing}
use Rattle.staat_model.specs.declared.set.PartSet.{PartSet}
use Rattle.staat_model.specs.SetLists.{set_of}
use Rattle.staat_model.specs.Sets.{Has, IsLeastOf, below}
use Rattle.staat_model.proofs.Members.{All-from_members}
use Rattle.staat_model.proofs.SetBits.{has-below}
use Rattle.staat_model.proofs.SetListings.{has-set_of}
use Rattle.staat_graph.specs.Graphs.{AreGroups, HasArc, IsGroup, Walks, along, here}
use Rattle.staat_graph.specs.Rows.{AllLeadOn, AreAscendingBelow, AreWalkRows, HasMark, IsMutualMark, IsSquare, row_word}
use Rattle.staat_graph.proofs.Classes.{AreFirst, all_groups, first_more, first_none, first_same}
use Rattle.staat_graph.proofs.Reaching.{one_group}
use Rattle.staat_graph.proofs.Walking.{joined, walk_ends}
use Rattle.staat_vec.proofs.Naturals.{lt_or_le, lt_one_more_cases}
use Rattle.staat_vec.proofs.Truth.{or_false}
use Rattle.staat_vec.proofs.ListLaws.{any_default}
use Rattle.staat_vec.proofs.Comparisons.{sorted_push, above_first}

-- ---- marks as bits

half_more : (n : ℕ) → (1 + 2 * n) / 2 ≡ n
half_more n = omega arith

half : (n : ℕ) → (2 * n) / 2 ≡ n
half n = omega arith

mark_bit : (marks : List Bool) (b : ℕ) → (bit_at (row_word marks) b ≡ 1) ↔ IsTrue (get_or marks b false)
unfolding row_word
mark_bit [] b = ((λ h. let z : bit_at 0 b ≡ 0 = bit_at-zero b in absurd (omega (arith, z, h))), (λ h. absurd (false≢true h)))
mark_bit (true ∷ marks) zero = ((λ h. refl), (λ h. bit_at_lowest (1 + 2 * row_word marks) ∙ omega arith))
mark_bit (false ∷ marks) zero = (
  (λ h. let z : bit_at (2 * row_word marks) 0 ≡ 2 * row_word marks % 2 = bit_at_lowest (2 * row_word marks) in absurd (omega (arith, z, h))),
  (λ h. absurd (false≢true h)),
)
mark_bit (true ∷ marks) (suc b) =
    let e : bit_at (1 + 2 * row_word marks) (suc b) ≡ bit_at (row_word marks) b = bit_at-suc (1 + 2 * row_word marks) b ∙ ap (λ n. bit_at n b) (half_more (row_word marks)) in
    ((λ h. (mark_bit marks b).0 (sym e ∙ h)), (λ h. e ∙ (mark_bit marks b).1 h))
mark_bit (false ∷ marks) (suc b) =
    let e : bit_at (2 * row_word marks) (suc b) ≡ bit_at (row_word marks) b = bit_at-suc (2 * row_word marks) b ∙ ap (λ n. bit_at n b) (half (row_word marks)) in
    ((λ h. (mark_bit marks b).0 (sym e ∙ h)), (λ h. e ∙ (mark_bit marks b).1 h))

row_at : (rows : List (List Bool)) (a : ℕ) → slice_index (map row_word rows) a ≡ row_word (get_or rows a [])
unfolding row_word
row_at [] a = refl
row_at (row ∷ rows) zero = refl
row_at (row ∷ rows) (suc a) = row_at rows a

pub arc_mark : (rows : List (List Bool)) (a b : ℕ) → HasArc (map row_word rows) a b ↔ HasMark rows a b
arc_mark rows a b =
    let m = mark_bit (get_or rows a []) b in (
      (λ h. m.0 (subst (λ n. bit_at n b ≡ 1) (row_at rows a) h)),
      (λ h. subst (λ n. bit_at n b ≡ 1) (sym (row_at rows a)) (m.1 h)),
    )

-- ---- places of marks

place_in : (marks : List Bool) (j : ℕ) → IsTrue (get_or marks j false) → j < length marks
place_in [] j h = absurd (false≢true h)
place_in (m ∷ marks) zero h = omega arith
place_in (m ∷ marks) (suc j) h = let lt = place_in marks j h in omega (arith, lt)

row_in : (rows : List (List Bool)) (i j : ℕ) → HasMark rows i j → i < length rows
row_in [] i j h = absurd (false≢true h)
row_in (row ∷ rows) zero j h = omega arith
row_in (row ∷ rows) (suc i) j h = let lt = row_in rows i j h in omega (arith, lt)

mark_within : (rows : List (List Bool)) (i j : ℕ) → IsSquare rows → HasMark rows i j → (i < length rows) × (j < length rows)
mark_within rows i j square h =
    let lt = row_in rows i j h in
    let e : length (get_or rows i []) ≡ length rows = square i [] lt in
    let p = place_in (get_or rows i []) j h in
    (lt, omega (arith, p, e))

-- ---- marks that are added

or_cases : (a b c : Bool) → (a || (b && c)) ≡ true → (a ≡ true) ⊎ ((b ≡ true) × (c ≡ true))
or_cases true b c h = inl refl
or_cases false true c h = inr (refl, h)
or_cases false false c h = absurd (false≢true h)

or_first : (a b c : Bool) → a ≡ true → (a || (b && c)) ≡ true
or_first true b c h = refl
or_first false b c h = absurd (false≢true h)

or_second : (a b c : Bool) → b ≡ true → c ≡ true → (a || (b && c)) ≡ true
or_second true b c p q = refl
or_second false true c p q = q
or_second false false c p q = absurd (false≢true p)

pub joined_all : (old others new : List Bool) (j : ℕ) → length others ≡ length old → length others ≤ j
    → ((i : ℕ) → i < j → get_or new i false ≡ (get_or old i false || get_or others i false)) → ((i : ℕ) → j ≤ i → get_or new i false ≡ get_or old i false)
    → (i : ℕ) → get_or new i false ≡ (get_or old i false || get_or others i false)
joined_all old others new j same long done rest i = ⊎_elim {C = get_or new i false ≡ (get_or old i false || get_or others i false)}
    (λ lt. done i lt)
    (λ ge. rest i ge ∙ sym (ap (λ b. get_or old i false || b) (get_or_past others i false (omega (arith, long, ge))) ∙ or_false (get_or old i false)))
    (lt_or_le i j)

module _ (k : ℕ) (old new : List (List Bool)) (led : AllLeadOn k old new) where
  pub led_to : (i j : ℕ) → HasMark new i j → HasMark old i j ⊎ (HasMark old i k × HasMark old k j)
  led_to i j h =
      let count = led.count in
      let lt : i < length old = let l = row_in new i j h in omega (arith, l, count) in
      or_cases (get_or (get_or old i []) j false) (get_or (get_or old i []) k false) (get_or (get_or old k []) j false) (sym ((led.rows i lt).marks j) ∙ h)

  pub led_kept : (i j : ℕ) → HasMark old i j → HasMark new i j
  led_kept i j h = (led.rows i (row_in old i j h)).marks j ∙ or_first (get_or (get_or old i []) j false) (get_or (get_or old i []) k false) (get_or (get_or old k []) j false) h

  pub led_through : (i j : ℕ) → HasMark old i k → HasMark old k j → HasMark new i j
  led_through i j p q = (led.rows i (row_in old i k p)).marks j ∙ or_second (get_or (get_or old i []) j false) (get_or (get_or old i []) k false) (get_or (get_or old k []) j false) p q

  led_square : IsSquare old → IsSquare new
  led_square square i d lt =
      let count = led.count in
      let at : i < length old = omega (arith, lt, count) in
      ap (λ (r : List Bool). length r) (any_default new i d [] lt) ∙ (led.rows i at).count ∙ square i [] at ∙ sym count

-- ---- walks

-- the table has the arcs, tells of walks only, and lets through the places before k
pub record IsLetThrough (rows : List (List Bool)) (k : ℕ) (table : List (List Bool)) : Type 0 where
  pub count : length table ≡ length rows
  pub square : IsSquare table
  pub arcs : (i j : ℕ) → HasMark rows i j → HasMark table i j
  pub walks : (i j : ℕ) → HasMark table i j → Walks (HasArc (map row_word rows)) (below (length rows)) i j
  pub passes : (a i j : ℕ) → a < k → HasMark table i a → HasMark table a j → HasMark table i j

pub none_through : (rows : List (List Bool)) → IsSquare rows → IsLetThrough rows 0 rows
none_through rows square = record {
  count = refl;
  square = square;
  arcs = λ i j h. h;
  walks = λ i j h.
      let (i_in, j_in) = mark_within rows i j square h in
      along j ((has-below (length rows) i).1 i_in) ((arc_mark rows i j).1 h) (here ((has-below (length rows) j).1 j_in));
  passes = λ a i j lt p q. absurd (omega (arith, lt));
}

pub next_through : (rows : List (List Bool)) (k : ℕ) (old new : List (List Bool)) → IsLetThrough rows k old → AllLeadOn k old new → IsLetThrough rows (k + 1) new
next_through rows k old new is led = record {
  count = led.count ∙ is.count;
  square = led_square k old new led is.square;
  arcs = λ i j h. led_kept k old new led i j (is.arcs i j h);
  walks = λ i j h. ⊎_elim {C = Walks (HasArc (map row_word rows)) (below (length rows)) i j}
      (λ was. is.walks i j was)
      (λ (p, q). joined (is.walks i k p) (is.walks k j q))
      (led_to k old new led i j h);
  passes = λ a i j lt p q. ⊎_elim {C = HasMark new i j}
      (λ less. by_cases a i j less (led_to k old new led i a p) (led_to k old new led a j q))
      (λ e. led_through k old new led i j (to_last i (subst (λ b. HasMark new i b) e p)) (from_last j (subst (λ b. HasMark new b j) e q)))
      (lt_one_more_cases a k lt);
}
  where
    to_last : (i : ℕ) → HasMark new i k → HasMark old i k
    to_last i h = ⊎_elim {C = HasMark old i k} (λ was. was) (λ (p, q). p) (led_to k old new led i k h)

    from_last : (j : ℕ) → HasMark new k j → HasMark old k j
    from_last j h = ⊎_elim {C = HasMark old k j} (λ was. was) (λ (p, q). q) (led_to k old new led k j h)

    by_cases : (a i j : ℕ) → a < k → HasMark old i a ⊎ (HasMark old i k × HasMark old k a) → HasMark old a j ⊎ (HasMark old a k × HasMark old k j) → HasMark new i j
    by_cases a i j lt (inl p) (inl q) = led_kept k old new led i j (is.passes a i j lt p q)
    by_cases a i j lt (inl p) (inr (q, r)) = led_through k old new led i j (is.passes a i k lt p q) r
    by_cases a i j lt (inr (p, q)) (inl r) = led_through k old new led i j p (is.passes a k j lt q r)
    by_cases a i j lt (inr (p, q)) (inr (r, s)) = led_through k old new led i j p s

pub all_through : (rows : List (List Bool)) (k : ℕ) (table : List (List Bool)) → length rows ≤ k → IsLetThrough rows k table → AreWalkRows rows table
all_through rows k table le is = record { count = is.count; square = is.square; walks = is.walks; all = λ i j w. marked w }
  where
    marked : {i j : ℕ} → Walks (HasArc (map row_word rows)) (below (length rows)) i j → (i ≡ j) ⊎ HasMark table i j
    marked (here h) = inl refl
    marked {i} {j} (along b h arc rest) = ⊎_elim {C = (i ≡ j) ⊎ HasMark table i j}
        (λ e. inr (subst (HasMark table i) e first))
        (λ m. let count = is.count in let lt = row_in table b j m in inr (is.passes b i j (omega (arith, lt, le, count)) first m))
        (marked rest)
      where
        first : HasMark table i b
        first = is.arcs i b ((arc_mark rows i b).0 arc)

-- ---- one group

module _ (rows table : List (List Bool)) (p : ℕ) (group : List ℕ) (are : AreWalkRows rows table) (p_in : p < length rows) (lists : Lists nat_cmp (λ q. (q < length table) × IsMutualMark table p q) group) where
  abbrev Arc : ℕ → ℕ → Type 0
  Arc = HasArc (map row_word rows)

  abbrev whole_set : PartSet
  whole_set = below (length rows)

  pub own_in : Contains group p
  own_in = let count = are.count in lists.all p (omega (arith, p_in, count), inl refl)

  reached : (q : ℕ) → Has (set_of group) q → Walks Arc whole_set p q × Walks Arc whole_set q p
  reached q h = go (lists.each q ((has-set_of group q).0 h)).1
    where
      go : IsMutualMark table p q → Walks Arc whole_set p q × Walks Arc whole_set q p
      go (inl e) = let stay : Walks Arc whole_set p p = here ((has-below (length rows) p).1 p_in) in (subst (Walks Arc whole_set p) (sym e) stay, subst (λ x. Walks Arc whole_set x p) (sym e) stay)
      go (inr (a, b)) = (are.walks p q a, are.walks q p b)

  in_group : (q : ℕ) → Walks Arc whole_set p q → Walks Arc whole_set q p → Has (set_of group) q
  in_group q ahead back = (has-set_of group q).1 (lists.all q (q_in, go (are.all p q ahead) (are.all q p back)))
    where
      q_in : q < length table
      q_in = let count = are.count in let lt = (has-below (length rows) q).0 (walk_ends ahead) in omega (arith, lt, count)

      go : (p ≡ q) ⊎ HasMark table p q → (q ≡ p) ⊎ HasMark table q p → IsMutualMark table p q
      go (inl e) b = inl (sym e)
      go (inr a) (inl e) = inl e
      go (inr a) (inr b) = inr (a, b)

  pub is_group : IsGroup Arc whole_set (set_of group)
  is_group = record {
    nonempty = (p, (has-set_of group p).1 own_in);
    within = λ q h. walk_ends (reached q h).0;
    linked = λ a b ha hb. joined (reached a ha).1 (reached b hb).0;
    whole = λ a b ha m. in_group b (joined (reached a ha).0 m.0) (joined m.1 (reached a ha).1);
  }

  pub group_numbers : AreAscendingBelow (length rows) group
  group_numbers = record {
    ascending = lists.ascending;
    small = All-from_members (λ q. q < length rows) group (λ q c. let count = are.count in let lt = (lists.each q c).0 in omega (arith, lt, count));
  }

-- ---- ascending lists

first_least : (xs : List ℕ) (q : ℕ) → IsStrictlySortedBy nat_cmp xs → Contains xs q → get_or xs 0 0 ≤ q
unfolding IsStrictlySortedBy
first_least [] q h c = absurd (Contains-nothing q c)
first_least (x ∷ xs) q h c = ⊎_elim {C = x ≤ q}
    (λ e. omega (arith, e))
    (λ later. let lt = above_first x xs h.0 q later in omega (arith, lt))
    (Contains-cases x xs q c)

first_in : (xs : List ℕ) (q : ℕ) → Contains xs q → (0 < length xs) × Contains xs (get_or xs 0 0)
first_in [] q c = absurd (Contains-nothing q c)
first_in (x ∷ xs) q c = (omega arith, (0, omega arith, refl))

module _ (P : ℕ → Type 0) (n : ℕ) (xs : List ℕ) (lists : Lists nat_cmp (λ q. (q < n) × P q) xs) where
  before_or_last : (q : ℕ) → q < n + 1 → (q < n) ⊎ (q ≡ n)
  before_or_last q lt = grind arith

  pub listed_next : P n → Lists nat_cmp (λ q. (q < n + 1) × P q) (xs ++ n ∷ [])
  listed_next h = record {
    ascending = sorted_push xs n lists.ascending (λ y c. (lists.each y c).0);
    each = λ q c. ⊎_elim {C = (q < n + 1) × P q}
        (λ old. let e = lists.each q old in let lt = e.0 in (omega (arith, lt), e.1))
        (λ e. subst (λ x. (x < n + 1) × P x) e (omega arith, h))
        (Contains-push_cases xs n q c);
    all = λ q (lt, p). ⊎_elim {C = Contains (xs ++ n ∷ []) q}
        (λ less. Contains-append_left xs (n ∷ []) q (lists.all q (less, p)))
        (λ e. subst (Contains (xs ++ n ∷ [])) (sym e) (Contains-push xs n))
        (before_or_last q lt);
  }

  pub listed_same : (P n → ⊥) → Lists nat_cmp (λ q. (q < n + 1) × P q) xs
  listed_same none = record {
    ascending = lists.ascending;
    each = λ q c. let e = lists.each q c in let lt = e.0 in (omega (arith, lt), e.1);
    all = λ q (lt, p). ⊎_elim {C = Contains xs q}
        (λ less. lists.all q (less, p))
        (λ e. absurd (none (subst P e p)))
        (before_or_last q lt);
  }

pub none_listed : (P : ℕ → Type 0) → Lists nat_cmp (λ q. (q < 0) × P q) []
unfolding IsStrictlySortedBy
none_listed P = record { ascending = tt; each = λ q c. absurd (Contains-nothing q c); all = λ q (lt, p). absurd (omega (arith, lt)) }

-- ---- all groups

-- the groups with a part below n, in order
pub record AreFirstGroups (rows : List (List Bool)) (n : ℕ) (groups : List (List ℕ)) : Type 0 where
  pub first : AreFirst (HasArc (map row_word rows)) (below (length rows)) n (map set_of groups)
  pub numbers : All (AreAscendingBelow (length rows)) groups

pub no_groups : (rows : List (List Bool)) → AreFirstGroups rows 0 []
no_groups rows = record { first = first_none (HasArc (map row_word rows)) (below (length rows)); numbers = λ i d lt. absurd (omega (arith, lt)) }

module _ (rows : List (List Bool)) where
  abbrev RowArc : ℕ → ℕ → Type 0
  RowArc = HasArc (map row_word rows)

  abbrev places : PartSet
  places = below (length rows)

  module _ (table : List (List Bool)) (n : ℕ) (groups : List (List ℕ)) (group : List ℕ) (are : AreWalkRows rows table) (n_in : n < length rows) (lists : Lists nat_cmp (λ q. (q < length table) × IsMutualMark table n q) group) (old : AreFirstGroups rows n groups) where
    abbrev own : IsGroup RowArc places (set_of group)
    own = is_group rows table n group are n_in lists

    own_has : Has (set_of group) n
    own_has = (has-set_of group n).1 (own_in rows table n group are n_in lists)

    pub group_next : (0 < length group) × (get_or group 0 0 ≡ n) → AreFirstGroups rows (n + 1) (groups ++ group ∷ [])
    group_next (some, first) =
        let least : IsLeastOf (set_of group) n = record { has = own_has; least = λ q h. let le = first_least group q lists.ascending ((has-set_of group q).0 h) in omega (arith, le, first) } in
        record {
          first = subst (AreFirst RowArc places (n + 1)) (sym (map-append set_of groups (group ∷ []))) (first_more RowArc places n (map set_of groups) (set_of group) old.first own least);
          numbers = All-push (AreAscendingBelow (length rows)) groups group old.numbers (group_numbers rows table n group are n_in lists);
        }

    pub group_same : ((0 < length group) × (get_or group 0 0 ≡ n) → ⊥) → AreFirstGroups rows (n + 1) groups
    group_same none = record { first = first_same RowArc places n (map set_of groups) old.first listed; numbers = old.numbers }
      where
        -- it has a part below n, so it is listed
        listed : (s : PartSet) → IsGroup RowArc places s → Has s n → Contains (map set_of groups) s
        listed s is h =
            let (some, first) = first_in group n (own_in rows table n group are n_in lists) in
            let same : set_of group ≡ s = one_group RowArc places (set_of group) s n own is own_has h in
            let in_s : Has s (get_or group 0 0) = subst (λ (z : PartSet). Has z (get_or group 0 0)) same ((has-set_of group (get_or group 0 0)).1 first) in
            let under : get_or group 0 0 ≤ n = first_least group n lists.ascending (own_in rows table n group are n_in lists) in
            let other : get_or group 0 0 ≢ n = λ e. none (some, e) in
            old.first.all s (get_or group 0 0) (omega (arith, under, other)) is in_s

  pub all_listed : (n : ℕ) (groups : List (List ℕ)) → length rows ≤ n → AreFirstGroups rows n groups → AreGroups RowArc places (map set_of groups)
  all_listed n groups le is = all_groups RowArc places n (map set_of groups) is.first (λ q h. let lt = (has-below (length rows) q).0 h in omega (arith, lt, le))
