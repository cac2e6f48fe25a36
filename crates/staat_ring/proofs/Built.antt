-- The circles of all planes can be linked, one after another; arrays in which all stand are good, and show these circles.
use Rattle.staat_ring.proofs.Rows as rules
use Rattle.std.proofs.Common.{◌≡◌, ℕ, ◌<◌, arith, ap, sym, ◌∙◌, List, [], ◌∷◌, length, All, Contains, ◌≢◌, ⊎_elim, ◌+◌, ◌*◌, ◌≤◌, subst, get_or, inl, zero, suc, Bool, true, false, not, refl, take}
use Rattle.std.specs.Prelude.{Some, map, option_map, slice_get, ◌==◌}
use Rattle.std.specs.Ordering.{nat_cmp}
use Rattle.std.specs.List.Sorted.{IsStrictlySortedBy}
use Rattle.std.proofs.lemmas.List.Elements.{Contains-get_or, All-contains, All-map, Contains-append_left, Contains-append_right}
use Rattle.std.proofs.lemmas.Option.{slice_get-get_or, slice_get-map, get_or_from_slice_get, slice_get_within}
use Rattle.staat_vec.specs.declared.vector.V3.{V3}
use Rattle.staat_vec.proofs.Unique.{Contains-later, Contains-front}
use Rattle.staat_pairs.specs.Tables.{AreTablePlanes}
use Rattle.staat_model.proofs.Members.{All-from_members}
use Rattle.staat_ring.specs.declared.entry.Entry.{Entry}
use Rattle.staat_ring.specs.Builds.{ring_by, slot_at}
use Rattle.staat_ring.specs.Links.{Distinct, Arrays, InRange}
use Rattle.staat_ring.specs.Linking.{CanBeLinked, AreLinkedBelow, AreSized, HasCircle, HoldsCircle, IsAlone, IsKeptAt}
use Rattle.staat_ring.specs.Numbered.{HasEntry, entry_number, head_number, node_number, plane_of, entry_numbered}
use Rattle.staat_ring.specs.Rings.{IsRingOf, RingStop, AreRings, NameVertex, WereMadeFrom, linked_of, stop_of}
use Rattle.staat_ring.proofs.Stops.{none_parallel}
use Rattle.staat_ring.proofs.CircleStops.{entries_ascend, entry_small, some, entry_other, entry_there}
use Rattle.staat_ring.proofs.RingLemmas.{apart_from, few_below, tagged_from, below_small, map_same, nodes_of_is}
use Rattle.staat_ring.proofs.Rows.{entry_once, one_entry, entry_back, head_circle, head_small, holds_still}
use Rattle.staat_vec.proofs.Comparisons.{head_less, tail_sorted}
use Rattle.staat_vec.proofs.ListLaws.{Contains-from_map, Contains-map, map_twice, place_in_map}
use Rattle.staat_ring.specs.RingViews.{numbers_below, shape, StandForCircles, CanBeUndone, arrangement_of, is_out, ring_of, rings_of, still_linked, entries_of, entries_on, HaveTakenOut, lists_of}
use Rattle.staat_vec.proofs.Naturals.{same_or, lt_suc_cases}
use Rattle.std.specs.List.{filter}
use Rattle.std.proofs.lemmas.List.{get_or_default}
use Rattle.std.proofs.lemmas.List.Folds.{map_fixed}
use Rattle.std.proofs.lemmas.List.FromFn.{get_or-range_with_len, length-range_with_len}
use Rattle.std.proofs.lemmas.Map.Keys.{sorted_from_strictly_increasing}
use Rattle.staat_vec.specs.Vectors.{origin}
use Rattle.staat_model.specs.Circles.{IsCircle, IsLinked}
use Rattle.staat_planes.specs.PairOrder.{plane_at}
use Rattle.staat_ring.specs.Stands.{AllPresent, EachEntry, EachVertex, IsPresent, IsRing, StandFor, home_of, is_empty}
use Rattle.staat_ring.proofs.TwoLevels.{filter_whole}
use Rattle.staat_ring.proofs.Unlinking.{entry_in, two_cases, planes_of_rings}

-- entries of ascending planes have different numbers
distinct_numbers : (n c : ℕ) (es : List Entry) → ((e : Entry) → Contains es e → e.plane < n) → IsStrictlySortedBy nat_cmp (map (λ e. e.plane) es) → Distinct (map (entry_number n c) es)
distinct_numbers n c [] small s = tt
distinct_numbers n c (e ∷ es) small s = (
  apart_from (entry_number n c e) (map (entry_number n c) es) (λ y cy q.
      let (f, cf, ef) = Contains-from_map (entry_number n c) es y cy in
      let lt = head_less e.plane (map (λ e. e.plane) es) f.plane s (Contains-map (λ e. e.plane) es f cf) in
      let same = ap (λ x. x.plane) (one_entry n c e f (small e (Contains-front e es)) (small f (Contains-later e es f cf)) (sym q ∙ sym ef)) in
      absurd (omega (arith, lt, same))),
  distinct_numbers n c es (λ f cf. small f (Contains-later e es f cf)) (tail_sorted e.plane (map (λ e. e.plane) es) s),
)

module _ (planes : List V3) (table : AreTablePlanes planes) (linked : List ℕ) (c : ℕ) (stops : List (List Entry)) (is : IsRingOf planes linked (ring_by c stops)) where
  abbrev as_stop : List Entry → RingStop
  as_stop es = record { node = 0; entries = es }

  stop : (es : List Entry) → Contains stops es → Contains (ring_by c stops).stops (as_stop es)
  stop es ce = Contains-map as_stop stops es ce

  small_plane : (es : List Entry) → Contains stops es → (e : Entry) → Contains es e → e.plane < length planes
  small_plane es cs = entry_small planes linked (ring_by c stops) (none_parallel planes linked table) is (as_stop es) (stop es cs)

  slot_in : (k : ℕ) → k < length stops → Contains stops (slot_at stops k)
  slot_in k lt = Contains-get_or stops k [] lt

  ring_at : (k : ℕ) → k < length stops → slice_get (map as_stop stops) k ≡ Some (as_stop (slot_at stops k))
  ring_at k lt = slice_get-map as_stop stops k ∙ ap (option_map as_stop) (slice_get-get_or stops k [] lt)

  pub can_be_linked : CanBeLinked (length planes) c stops
  can_be_linked = record {
    some = All-from_members HasEntry stops (λ es ce. some planes linked (ring_by c stops) (none_parallel planes linked table) is (as_stop es) (stop es ce));
    small = All-from_members (All (λ e. e.plane < length planes)) stops (λ es cs. All-from_members (λ e. e.plane < length planes) es (small_plane es cs));
    distinct = λ k lt. distinct_numbers (length planes) c (slot_at stops k) (small_plane (slot_at stops k) (slot_in k lt)) (entries_ascend planes linked (ring_by c stops) (none_parallel planes linked table) is (as_stop (slot_at stops k)) (stop (slot_at stops k) (slot_in k lt)));
    apart = λ k m e lk lm ck cm. entry_once planes linked (ring_by c stops) is k m (as_stop (slot_at stops k)) (as_stop (slot_at stops m)) e (ring_at k lk) (ring_at m lm) ck cm;
  }

-- ---- one after another

pub none_below : (planes : List V3) (n : ℕ) (a : Arrays) → AreSized n a → ((x : ℕ) → x < 4 * (n * n) → IsAlone a x) → ((x : ℕ) → x < 4 * (n * n) → get_or a.home x 0 ≡ x) → AreLinkedBelow planes n 0 a
none_below planes n a sizes alone home = record {
  sizes = sizes;
  circles = λ c lt. absurd (omega (arith, lt));
  alone = λ x lx no. alone x lx;
  own = λ x le lx. home x lx;
}

module _ (planes : List V3) (table : AreTablePlanes planes) (n : ℕ) (n_is : n ≡ length planes) where
  pub can_link : (c : ℕ) (stops : List (List Entry)) → IsRingOf planes (numbers_below n) (ring_by c stops) → CanBeLinked n c stops
  can_link c stops is = subst (λ m. CanBeLinked m c stops) (sym n_is) (can_be_linked planes table (numbers_below n) c stops is)

  pub one_more : (c : ℕ) → c < n → (stops : List (List Entry)) → IsRingOf planes (numbers_below n) (ring_by c stops) → (a b : Arrays) → AreLinkedBelow planes n c a → AreSized n b → HoldsCircle n b c stops
      → ((x : ℕ) → (shape n).circle x ≢ c → IsKeptAt a b x) → ((x : ℕ) → 2 * (n * n) ≤ x → get_or b.home x 0 ≡ get_or a.home x 0) → AreLinkedBelow planes n (c + 1) b
  one_more c lc stops is a b so_far sizes holds others home = record {
    sizes = sizes;
    circles = λ d lt. ⊎_elim {C = HasCircle planes n b d} (λ e. subst (HasCircle planes n b) (sym e) (record { stops = stops; ring = is; holds = holds })) (λ ne. kept d (omega (arith, lt, ne))) (same_or d c);
    alone = λ x lx no.
        let k = others x (λ e. no (let q : (shape n).circle x < c + 1 = omega (arith, e) in q)) in
        let old = so_far.alone x lx (λ lt. no (let q : (shape n).circle x < c + 1 = omega (arith, lt) in q)) in
        record {
          circles = (k.circles.next ∙ old.circles.0, k.circles.prev ∙ old.circles.1);
          vertices = (k.vertices.next ∙ old.vertices.0, k.vertices.prev ∙ old.vertices.1);
        };
    own = λ x le lx. home x le ∙ so_far.own x le lx;
  }
    where
      kept : (d : ℕ) → d < c → HasCircle planes n b d
      kept d lt =
          let old = so_far.circles d lt in
          record {
            stops = old.stops;
            ring = old.ring;
            holds = holds_still n d (omega (arith, lt, lc)) old.stops (can_link d old.stops old.ring) a b (λ y e. others y (λ q. let s : d ≡ c = sym e ∙ q in absurd (omega (arith, s, lt)))) old.holds;
          }

-- ---- the planes below n

pub take_none : (xs : List ℕ) → take 0 xs ≡ []
take_none [] = refl
take_none (x ∷ xs) = refl

pub below_all : (n c : ℕ) → c < n → Contains (numbers_below n) c
below_all n c lt = (c, omega (arith, lt, length-range_with_len 0 n), let g = get_or-range_with_len 0 n c c lt in omega (arith, g))

-- ---- the entries of a plane

pub in_entries : (n p k c e : ℕ) → c < k → Contains (entries_on n p c) e → Contains (entries_of n p k) e
in_entries n p zero c e lt x = absurd (omega (arith, lt))
in_entries n p (suc k) c e lt x = ⊎_elim {C = Contains (entries_of n p (suc k)) e}
    (λ l. Contains-append_left (entries_of n p k) (entries_on n p k) e (in_entries n p k c e l x))
    (λ q. Contains-append_right (entries_of n p k) (entries_on n p k) e (subst (λ d. Contains (entries_on n p d) e) q x)) (lt_suc_cases c k lt)

on_circle : (n c : ℕ) (e : Entry) → c ≢ e.plane → Contains (entries_on n e.plane c) (entry_number n c e)
on_circle n c e ne = go (c == e.plane) (Rattle.staat_vec.proofs.Naturals.eq_test_false c e.plane ne) e.turned
  where
    go : (b : Bool) → b ≡ false → (t : Bool) → Contains (Rattle.std.specs.Prelude.if◌then◌else◌ b [] ((2 * (c * n + e.plane)) ∷ (2 * (c * n + e.plane) + 1) ∷ [])) (2 * (c * n + e.plane) + (Rattle.std.specs.Prelude.if◌then◌else◌ t 1 0))
    go true h t = cc
    go false h true = (1, omega arith, refl)
    go false h false = (0, omega arith, omega arith)

some_list : {X : Type 0} (f : X → ℕ) (xs : List X) → 0 < length xs → is_empty (map f xs) ≡ false
some_list f [] h = absurd (omega (arith, h))
some_list f (x ∷ xs) h = refl

-- ---- nodes do not matter to a circle

ring_renamed : (planes : List V3) (linked : List ℕ) (c : ℕ) (f : List Entry → ℕ) (stops : List (List Entry)) → IsRingOf planes linked (ring_by c stops)
    → IsRingOf planes linked (record { plane = c; stops = map (λ es. record { node = f es; entries = es }) stops })
ring_renamed planes linked c f stops is = record {
  circle = subst (IsCircle planes linked c) (map_twice (stop_of planes c) zero_stop stops ∙ sym (map_twice (stop_of planes c) named stops)) is.circle;
  agree = All-map (NameVertex planes c) named stops (All-from_members (λ es. NameVertex planes c (zero_stop es)) stops (λ es ce. All-contains (NameVertex planes c) (map zero_stop stops) (zero_stop es) is.agree (Contains-map zero_stop stops es ce)));
}
  where
    zero_stop : List Entry → RingStop
    zero_stop es = record { node = 0; entries = es }

    named : List Entry → RingStop
    named es = record { node = f es; entries = es }

module _ (planes : List V3) (table : AreTablePlanes planes) (few : length planes ≤ 1024) (least : 3 ≤ length planes) (a : Arrays)
    (circles_in : InRange a.circles) (vertices_in : InRange a.vertices) (are : AreLinkedBelow planes (length planes) (length planes) a) where
  abbrev n : ℕ
  n = length planes

  abbrev l : Rattle.staat_ring.specs.Stands.RingLists
  l = lists_of (shape n) a

  abbrev has : (c : ℕ) → c < n → HasCircle planes n a c
  has c lc = are.circles c lc

  abbrev stops : (c : ℕ) → c < n → List (List Entry)
  stops c lc = (has c lc).stops

  can : (c : ℕ) (lc : c < n) → CanBeLinked n c (stops c lc)
  can c lc = can_be_linked planes table (numbers_below n) c (stops c lc) (has c lc).ring

  abbrev slot : (c : ℕ) → c < n → ℕ → List Entry
  slot c lc k = slot_at (stops c lc) k

  abbrev node : (c : ℕ) → c < n → ℕ → ℕ
  node c lc k = node_number n c (slot c lc k)

  abbrev nodes : (c : ℕ) → c < n → List ℕ
  nodes c lc = map (node_number n c) (stops c lc)

  abbrev numbers : (c : ℕ) → c < n → ℕ → List ℕ
  numbers c lc k = map (entry_number n c) (slot c lc k)

  -- ---- the circle of a plane

  circle_ring : (c : ℕ) (lc : c < n) → IsRing a.circles (shape n).circle (head_number n c) (nodes c lc)
  circle_ring c lc = record {
    ring = (has c lc).holds.circle;
    distinct = rules.circle_distinct n c lc (stops c lc) (can c lc);
    tagged = tagged_from (shape n).circle ((shape n).circle (head_number n c)) (head_number n c ∷ nodes c lc) (λ x cx. rules.circle_of_ring n c lc (stops c lc) (can c lc) x cx ∙ sym (head_circle n c lc));
  }

  all_within : (c : ℕ) (lc : c < n) (x : ℕ) → Contains (head_number n c ∷ nodes c lc) x → x < 4 * (n * n)
  all_within c lc x (zero, lt, e) = let h = head_small n c lc in omega (arith, h, e)
  all_within c lc x (suc k, lt, e) = All-contains (λ x. x < 4 * (n * n)) (nodes c lc) x (rules.nodes_within n c lc (stops c lc) (can c lc)) (k, omega (arith, lt), e)

  short_circle : (c : ℕ) (lc : c < n) → length (nodes c lc) < length a.circles.next
  short_circle c lc = let f = few_below (4 * (n * n)) (head_number n c ∷ nodes c lc) (rules.circle_distinct n c lc (stops c lc) (can c lc)) (all_within c lc) in let s = are.sizes.circles in omega (arith, f, s)

  pub vertices_are : (c : ℕ) (lc : c < n) → l.vertices c ≡ nodes c lc
  vertices_are c lc = nodes_of_is a.circles (shape n).circle (head_number n c) (nodes c lc) (short_circle c lc) (circle_ring c lc)

  -- ---- the ring of a stop

  own : (c : ℕ) (lc : c < n) (k : ℕ) → k < length (stops c lc) → home_of a (node c lc k) ≡ node c lc k
  own c lc k lk = are.own (node c lc k) (rules.great n c lc (stops c lc) (can c lc) k lk) (rules.node_within n c lc (stops c lc) (can c lc) k lk)

  home_at : (c : ℕ) (lc : c < n) (k : ℕ) → k < length (stops c lc) → (e : Entry) → Contains (slot c lc k) e → home_of a (entry_number n c e) ≡ node c lc k
  home_at c lc k lk e ce = All-contains (λ e. get_or a.home (entry_number n c e) 0 ≡ node c lc k) (slot c lc k) e ((has c lc).holds.homes k lk) ce

  home_of_row : (c : ℕ) (lc : c < n) (k : ℕ) → k < length (stops c lc) → (x : ℕ) → Contains (node c lc k ∷ numbers c lc k) x → home_of a x ≡ home_of a (node c lc k)
  home_of_row c lc k lk x (zero, lt, e) = ap (home_of a) (sym e)
  home_of_row c lc k lk x (suc i, lt, e) = let (y, cy, q) = Contains-from_map (entry_number n c) (slot c lc k) x (i, omega (arith, lt), e) in ap (home_of a) (sym q) ∙ (home_at c lc k lk y cy ∙ sym (own c lc k lk))

  stop_ring : (c : ℕ) (lc : c < n) (k : ℕ) → k < length (stops c lc) → IsRing a.vertices (home_of a) (node c lc k) (numbers c lc k)
  stop_ring c lc k lk = record {
    ring = (has c lc).holds.vertices k lk;
    distinct = rules.row_distinct n c lc (stops c lc) (can c lc) k lk;
    tagged = tagged_from (home_of a) (home_of a (node c lc k)) (node c lc k ∷ numbers c lc k) (home_of_row c lc k lk);
  }

  short_stop : (c : ℕ) (lc : c < n) (k : ℕ) → k < length (stops c lc) → length (numbers c lc k) < length a.vertices.next
  short_stop c lc k lk =
      let f = few_below (4 * (n * n)) (node c lc k ∷ numbers c lc k) (rules.row_distinct n c lc (stops c lc) (can c lc) k lk) (λ x cx. rules.row_within n c lc (stops c lc) (can c lc) k x lk cx) in
      let s = are.sizes.vertices in omega (arith, f, s)

  pub entries_are : (c : ℕ) (lc : c < n) (k : ℕ) → k < length (stops c lc) → l.entries (node c lc k) ≡ numbers c lc k
  entries_are c lc k lk = nodes_of_is a.vertices (home_of a) (node c lc k) (numbers c lc k) (short_stop c lc k lk) (stop_ring c lc k lk)

  -- ---- a vertex of the lists is the node of a stop, and its entries are the numbers of the entries there

  each_vertex : (P : ℕ → ℕ → Type 0) → ((c : ℕ) (lc : c < n) (k : ℕ) → k < length (stops c lc) → P c (node c lc k)) → EachVertex n l P
  each_vertex P h c v lc cv = let (k, lk, q) = rules.node_in n c lc (stops c lc) (can c lc) v (subst (λ xs. Contains xs v) (vertices_are c lc) cv) in subst (P c) q (h c lc k lk)

  each_entry : (P : ℕ → ℕ → ℕ → Type 0) → ((c : ℕ) (lc : c < n) (k : ℕ) → k < length (stops c lc) → (x : Entry) → Contains (slot c lc k) x → P c (node c lc k) (entry_number n c x)) → EachEntry n l P
  each_entry P h c v e lc cv = each_vertex (λ c v. (e : ℕ) → Contains (l.entries v) e → P c v e) (λ c lc k lk e ce.
      let (x, cx, q) = Contains-from_map (entry_number n c) (slot c lc k) e (subst (λ xs. Contains xs e) (entries_are c lc k lk) ce) in subst (P c (node c lc k)) q (h c lc k lk x cx)) c v lc cv e

  stands : StandFor (shape n) l a
  stands = record {
    circles_in_range = circles_in;
    vertices_in_range = vertices_in;
    heads = λ c lc. head_circle n c lc;
    circles = λ c lc. subst (λ xs. IsRing a.circles (shape n).circle (head_number n c) xs) (sym (vertices_are c lc)) (circle_ring c lc);
    owns = each_vertex (λ c v. home_of a v ≡ v) own;
    vertices = each_vertex (λ c v. IsRing a.vertices (home_of a) v (l.entries v)) (λ c lc k lk. subst (λ xs. IsRing a.vertices (home_of a) (node c lc k) xs) (sym (entries_are c lc k lk)) (stop_ring c lc k lk));
    within = each_vertex (λ c v. v < length a.circles.next) (λ c lc k lk. let w = rules.node_within n c lc (stops c lc) (can c lc) k lk in let s = are.sizes.circles in omega (arith, w, s));
    entries_within = each_entry (λ c v e. e < length a.vertices.next) (λ c lc k lk x cx. let w = rules.number_within n c lc (stops c lc) (can c lc) k lk x cx in let s = are.sizes.vertices in omega (arith, w, s));
  }

  -- ---- each entry stands somewhere

  linked_at : (p : ℕ) → p < n → IsLinked planes (numbers_below n) p (plane_at planes p)
  linked_at p lp = record { listed = below_all n p lp; is = Rattle.std.proofs.lemmas.Option.slice_get-get_or planes p origin lp }

  present_at : (c : ℕ) (lc : c < n) (e : Entry) → e.plane < n → e.plane ≢ c → IsPresent (shape n) l a (entry_number n c e)
  present_at c lc e lp ne =
      let t = entry_there planes (numbers_below n) (ring_by c (stops c lc)) (none_parallel planes (numbers_below n) table) (has c lc).ring e (plane_at planes e.plane) (linked_at e.plane lp) ne in
      let (es, at, q) = place_in_map (λ es. record { node = 0; entries = es }) (stops c lc) t.place t.stop t.is in
      let lk = slice_get_within (stops c lc) t.place es at in
      let ce : Contains (slot c lc t.place) e = subst (λ xs. Contains xs e) (sym (get_or_from_slice_get (stops c lc) t.place es [] at)) (subst (λ (s : RingStop). Contains s.entries e) (sym q) t.listed) in
      let h : home_of a (entry_number n c e) ≡ node c lc t.place = home_at c lc t.place lk e ce in
      let q : (shape n).circle (home_of a (entry_number n c e)) ≡ c = ap (shape n).circle h ∙ rules.circle_of_node n c lc (stops c lc) (can c lc) t.place lk in
      record {
        circle = subst (λ d. d < n) (sym q) lc;
        vertex = subst (λ d. Contains (l.vertices d) (home_of a (entry_number n c e))) (sym q) (subst (Contains (l.vertices c)) (sym h) (subst (λ xs. Contains xs (node c lc t.place)) (sym (vertices_are c lc)) (Contains-map (node_number n c) (stops c lc) (slot c lc t.place) (rules.slot_in n c lc (stops c lc) (can c lc) t.place lk))));
        entry = subst (λ v. Contains (l.entries v) (entry_number n c e)) (sym h) (subst (λ xs. Contains xs (entry_number n c e)) (sym (entries_are c lc t.place lk)) (Contains-map (entry_number n c) (slot c lc t.place) e ce));
      }

  present_number : (p : ℕ) → p < n → (e : ℕ) → Contains (entries_of n p n) e → IsPresent (shape n) l a e
  present_number p lp e ce =
      let (c, lc, x) = entry_in n p n e ce in
      let (s, ls, q, ne) = two_cases n p c e x in
      by c lc (λ w. ne (sym w)) s ls q
    where
      by : (c : ℕ) → c < n → p ≢ c → (s : ℕ) → s < 2 → e ≡ 2 * (c * n + p) + s → IsPresent (shape n) l a e
      by c lc ne zero ls q = subst (IsPresent (shape n) l a) (sym q) (present_at c lc (record { plane = p; turned = false }) lp ne)
      by c lc ne (suc zero) ls q = subst (IsPresent (shape n) l a) (sym q) (present_at c lc (record { plane = p; turned = true }) lp ne)
      by c lc ne (suc (suc s)) ls q = absurd (omega (arith, ls))

  all_present : (es : List ℕ) → ((e : ℕ) → Contains es e → IsPresent (shape n) l a e) → AllPresent (shape n) l a es
  all_present [] h = tt
  all_present (e ∷ es) h = (h e (zero, omega arith, refl), all_present es (λ x c. h x (suc c.0, omega (arith, c.1), c.2)))

  pub good : StandForCircles n [] a
  good = record {
    stands = stands;
    full = each_vertex (λ c v. is_empty (l.entries v) ≡ false) (λ c lc k lk. ap is_empty (entries_are c lc k lk) ∙ some_list (entry_number n c) (slot c lc k) (rules.some n c lc (stops c lc) (can c lc) k lk));
    short_circles = λ c lc. subst (λ xs. length xs < length a.circles.next) (sym (vertices_are c lc)) (short_circle c lc);
    short_vertices = each_vertex (λ c v. length (l.entries v) < length a.vertices.next) (λ c lc k lk. subst (λ xs. length xs < length a.vertices.next) (sym (entries_are c lc k lk)) (short_stop c lc k lk));
    present = λ p lp no. all_present (entries_of n p n) (present_number p lp);
    known = each_entry (λ c v e. Contains (entries_of n (plane_of n e) n) e) (λ c lc k lk x cx.
        let stop = Contains-map (λ es. record { node = 0; entries = es }) (stops c lc) (slot c lc k) (rules.slot_in n c lc (stops c lc) (can c lc) k lk) in
        let ne = entry_other planes (numbers_below n) (ring_by c (stops c lc)) (none_parallel planes (numbers_below n) table) (has c lc).ring (record { node = 0; entries = slot c lc k }) stop x cx in
        subst (λ i. Contains (entries_of n i n) (entry_number n c x)) (sym (ap (λ (y : Entry). y.plane) (entry_back n c x (rules.small n c lc (stops c lc) (can c lc) k lk x cx))))
        (in_entries n x.plane n c (entry_number n c x) lc (on_circle n c x (λ z. ne (sym z)))));
    numbered = each_entry (λ c v e. entry_number n c (entry_numbered n e) ≡ e) (λ c lc k lk x cx. ap (entry_number n c) (entry_back n c x (rules.small n c lc (stops c lc) (can c lc) k lk x cx)));
  }

  -- ---- the circles that the arrays show

  abbrev named : (c : ℕ) → List Entry → RingStop
  named c es = record { node = node_number n c es; entries = es }

  entries_read : (c : ℕ) (lc : c < n) (es : List Entry) → Contains (stops c lc) es → map (entry_numbered n) (l.entries (node_number n c es)) ≡ es
  entries_read c lc es (k, lk, e) =
      let q : slot c lc k ≡ es = get_or_default (stops c lc) k [] es lk ∙ e in
      subst (λ xs. map (entry_numbered n) (l.entries (node_number n c xs)) ≡ xs) q
      (ap (map (entry_numbered n)) (entries_are c lc k lk) ∙ map_twice (entry_numbered n) (entry_number n c) (slot c lc k)
      ∙ map_fixed (λ x. entry_numbered n (entry_number n c x)) (slot c lc k) (All-from_members (λ x. entry_numbered n (entry_number n c x) ≡ x) (slot c lc k) (λ x cx. entry_back n c x (rules.small n c lc (stops c lc) (can c lc) k lk x cx))))

  stops_read : (c : ℕ) (lc : c < n) → (ring_of n l c).stops ≡ map (named c) (stops c lc)
  stops_read c lc =
      ap (map read) (vertices_are c lc) ∙ map_twice read (node_number n c) (stops c lc)
      ∙ map_same (λ es. read (node_number n c es)) (named c) (stops c lc) (λ es ce i. record { node = node_number n c es; entries = entries_read c lc es ce i })
    where
      read : ℕ → RingStop
      read v = record { node = v; entries = map (entry_numbered n) (l.entries v) }

  ring_read : (c : ℕ) (lc : c < n) → ring_of n l c ≡ record { plane = c; stops = map (named c) (stops c lc) }
  ring_read c lc = λ i. record { plane = c; stops = stops_read c lc i }

  planes_read : linked_of (rings_of n [] l) ≡ numbers_below n
  planes_read = planes_of_rings n [] l ∙ filter_whole (λ c. not (is_out [] c)) (numbers_below n) (λ c _. refl)

  pub rings : AreRings planes (rings_of n [] l) []
  rings = record {
    each = All-from_members (IsRingOf planes (linked_of (rings_of n [] l))) (rings_of n [] l) (λ r cr.
        let (c, cc', q) = Contains-from_map (ring_of n l) (filter (λ c. not (is_out [] c)) (numbers_below n)) r cr in
        let lc : c < n = below_small n c (subst (λ xs. Contains xs c) (filter_whole (λ c. not (is_out [] c)) (numbers_below n) (λ c _. refl)) cc') in
        subst (IsRingOf planes (linked_of (rings_of n [] l))) q (subst (λ ks. IsRingOf planes ks (ring_of n l c)) (sym planes_read)
        (subst (IsRingOf planes (numbers_below n)) (sym (ring_read c lc)) (ring_renamed planes (numbers_below n) c (node_number n c) (stops c lc) (has c lc).ring))));
    ascending = subst (IsStrictlySortedBy nat_cmp) (sym planes_read) (below_sorted n);
    axes = λ k lt. subst (λ xs. Contains xs k) (sym planes_read) (below_all n k (omega (arith, lt, least)));
    all = λ k lt. inl (subst (λ xs. Contains xs k) (sym planes_read) (below_all n k lt));
  }
    where
      below_sorted : (m : ℕ) → IsStrictlySortedBy nat_cmp (numbers_below m)
      below_sorted m = sorted_from_strictly_increasing (numbers_below m) (λ k lt. let e = length-range_with_len 0 m in let a = get_or-range_with_len 0 m k 0 (omega (arith, lt, e)) in let b = get_or-range_with_len 0 m (k + 1) 0 (omega (arith, lt, e)) in omega (arith, a, b))

  sound : CanBeUndone n [] a
  sound zero lt = good
  sound (suc k) lt = absurd (omega (arith, lt))

  pub kept : (order : List ℕ) → length order ≡ n → HaveTakenOut n 0 order a
  kept order size = record {
    few = few;
    room = are.sizes.home;
    size = size;
    most = omega arith;
    all = all;
    planes = λ k lt. absurd (omega (arith, lt));
    sound = subst (λ (o : List ℕ). CanBeUndone n o a) (sym (take_none order)) sound;
  }
    where
      all : (k : ℕ) → k ≤ 0 → k + length (still_linked n (take k order)) ≡ n
      all zero le = let e : length (still_linked n (take 0 order)) ≡ n = ap (λ (o : List ℕ). length (still_linked n o)) (take_none order) ∙ (ap length (filter_whole (λ c. not (is_out [] c)) (numbers_below n) (λ c _. refl)) ∙ length-range_with_len 0 n) in omega (arith, e)
      all (suc k) le = absurd (omega (arith, le))

  pub made : (order : List ℕ) → WereMadeFrom planes (arrangement_of n (take 0 order) a)
  made order = subst (λ (o : List ℕ). WereMadeFrom planes (arrangement_of n o a)) (sym (take_none order)) (record {
    now = rings;
    before = λ k kept e. absurd (let lt = slice_get_within [] k kept e in omega (arith, lt));
  })
