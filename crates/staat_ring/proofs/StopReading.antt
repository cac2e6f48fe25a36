-- What the arrays tell: the circle of a linked plane, and of a stop that one stands at the next stop and the next entry.
use Rattle.std.proofs.Common.{◌≡◌, ◌≢◌, ℕ, zero, suc, ◌+◌, ◌*◌, ◌^◌, ◌/◌, ◌%◌, ◌-◌, ◌<◌, ◌≤◌, arith, ap, refl, sym, subst, ◌∙◌, List, [], ◌∷◌, ◌++◌, length, get_or, take, drop, Contains, Bool, rules, ⊎_elim, not, true, false}
use Rattle.std.specs.Prelude.{Some, map, option_map, slice_get, ◌==◌, nat_lt}
use Rattle.std.proofs.Math.Nat.{mul-le-mul}
use Rattle.std.proofs.lemmas.List.{get_or_default, length-map, length-take-le, get_or_append_left, get_or_push}
use Rattle.std.proofs.lemmas.Option.{get_or_from_slice_get, same_Some, slice_get-get_or, slice_get-map, slice_get_within}
use Rattle.staat_model.proofs.Members.{All-from_members}
use Rattle.staat_ring.specs.declared.entry.Entry.{Entry}
use Rattle.staat_ring.specs.Links.{Arrays, Links, Chain, IsLinkedRing}
use Rattle.staat_ring.specs.Numbered.{head_number, entry_number, entry_numbered}
use Rattle.staat_ring.specs.Places.{IsAtEntry, IsStopAt, cursor, plane_count}
use Rattle.staat_ring.specs.RingViews.{HaveTakenOut, AreFlags, StandForCircles, arrangement_of, ring_of, rings_at, shape, undo, numbers_below, is_out, still_linked, unlinked_planes, lists_of}
use Rattle.staat_ring.specs.Rings.{Arrangement, Ring, RingStop, linked_of}
use Rattle.staat_ring.specs.Stands.{IsRing, IsShortRing, RingLists, home_of}
use Rattle.staat_ring.proofs.Unlinking.{sound_is_good, linked_plane, planes_of_rings}
use Rattle.staat_vec.proofs.ListLaws.{place_in_map, Contains-map, Contains-from_map}
use Rattle.staat_vec.proofs.Unique.{from_place}
use Rattle.std.proofs.lemmas.Bool.Decides.{nat_tests}
use Rattle.std.specs.List.{filter}
use Rattle.staat_ring.proofs.Rows.{head_small}
use Rattle.staat_ring.proofs.RingLemmas.{from_apart, below_small}
use Rattle.staat_ring.proofs.Built.{below_all}
use Rattle.staat_ring.proofs.WithoutLemmas.{filter_from, filter_in}
use Rattle.staat_vec.proofs.Naturals.{lt_one_more_cases}

-- ---- going round a ring

chain_step : (s : Links) (a : ℕ) (xs : List ℕ) (b k : ℕ) → Chain s a xs b → k ≤ length xs → get_or s.next (get_or (a ∷ xs) k 0) 0 ≡ get_or (xs ++ b ∷ []) k 0
chain_step s a [] b zero c le = c.0
chain_step s a [] b (suc k) c le = absurd (omega (arith, le))
chain_step s a (x ∷ xs) b zero c le = c.0
chain_step s a (x ∷ xs) b (suc k) c le = chain_step s x xs b k c.1.1 (omega (arith, le))

-- the node is the one at this place, or the head after the last one
pub record IsAtPlace (head : ℕ) (xs : List ℕ) (node k : ℕ) : Type 0 where
  pub within : k ≤ length xs
  pub is : node ≡ get_or (xs ++ head ∷ []) k 0

pub at_start : (s : Links) (head : ℕ) (xs : List ℕ) → IsLinkedRing s head xs → IsAtPlace head xs (get_or s.next head 0) 0
at_start s head xs r = record { within = omega arith; is = chain_step s head xs head 0 r (omega arith) }

pub before_end : (head : ℕ) (xs : List ℕ) (k : ℕ) → k < length xs → get_or (xs ++ head ∷ []) k 0 ≡ get_or xs k 0
before_end head xs k lt = get_or_append_left xs (head ∷ []) 0 k lt

at_end : (head : ℕ) (xs : List ℕ) (k : ℕ) → k ≡ length xs → get_or (xs ++ head ∷ []) k 0 ≡ head
at_end head xs k e = get_or_push xs head 0 k (sym e)

pub goes_on : (head : ℕ) (xs : List ℕ) (node k : ℕ) → IsAtPlace head xs node k → node ≢ head → k < length xs
goes_on head xs node k at ne = ⊎_elim {C = k < length xs} (λ lt. lt) (λ e. absurd (ne (at.is ∙ at_end head xs k e))) (lt_one_more_cases k (length xs) (omega (arith, at.within)))

pub ends : (s : Links) (head : ℕ) (xs : List ℕ) (node k : ℕ) → IsShortRing s head xs → IsAtPlace head xs node k → node ≡ head → k ≡ length xs
ends s head xs node k short at e = search (rules, ⊎_elim, from_apart, lt_one_more_cases, before_end)

pub at_next : (s : Links) (head : ℕ) (xs : List ℕ) (node k : ℕ) → IsShortRing s head xs → IsAtPlace head xs node k → node ≢ head → IsAtPlace head xs (get_or s.next node 0) (k + 1)
at_next s head xs node k short at ne =
    let lt = goes_on head xs node k at ne in
    record {
      within = omega (arith, lt);
      is = ap (λ x. get_or s.next x 0) (at.is ∙ before_end head xs k lt)
          ∙ (chain_step s head xs head (suc k) short.ring (omega (arith, lt)) ∙ ap (λ j. get_or (xs ++ head ∷ []) j 0) (let e : suc k ≡ k + 1 = omega arith in e));
    }

pub node_within : (s : Links) (head : ℕ) (xs : List ℕ) (node k : ℕ) → IsShortRing s head xs → IsAtPlace head xs node k → node < length s.next
node_within s head xs node k short at = ⊎_elim {C = node < length s.next}
    (λ lt. subst (λ x. x < length s.next) (sym (at.is ∙ before_end head xs k lt)) (short.within (suc k) 0 (omega (arith, lt))))
    (λ e. subst (λ x. x < length s.next) (sym (at.is ∙ at_end head xs k e)) (short.within 0 0 (omega arith)))
    (lt_one_more_cases k (length xs) (omega (arith, at.within)))

-- ---- tests

pub not_below : (a b : ℕ) → b ≤ a → nat_lt a b ≡ true → ⊥
not_below a b h e = let lt : a < b = grind (arith, nat_tests) in omega (arith, h, lt)

-- ---- a node at a place

pub at_place : (head : ℕ) (xs : List ℕ) (m x : ℕ) → slice_get xs m ≡ Some x → IsAtPlace head xs x m
at_place head xs m x e =
    let lt = slice_get_within xs m x e in
    record { within = omega (arith, lt); is = sym (before_end head xs m lt ∙ (get_or_default xs m 0 x lt ∙ get_or_from_slice_get xs m x x e)) }

pub place_is : (head : ℕ) (xs : List ℕ) (m x : ℕ) → IsAtPlace head xs x m → m < length xs → slice_get xs m ≡ Some x
place_is head xs m x at lt = slice_get-get_or xs m 0 lt ∙ ap (λ y. Some y) (sym (at.is ∙ before_end head xs m lt))

no_head : (s : Links) (head : ℕ) (xs : List ℕ) (m x : ℕ) → IsShortRing s head xs → slice_get xs m ≡ Some x → x ≢ head
no_head s head xs m x short e q = let lt = slice_get_within xs m x e in let k = ends s head xs x m short (at_place head xs m x e) q in omega (arith, lt, k)

-- ---- entries by number

cursor_is : (n c v : ℕ) (xs : List ℕ) → ((x : ℕ) → Contains xs x → entry_number n c (entry_numbered n x) ≡ x) → (i : ℕ) → i ≤ length xs
    → cursor n c v (drop i (map (entry_numbered n) xs)) ≡ get_or (xs ++ v ∷ []) i 0
cursor_is n c v [] h zero le = refl
cursor_is n c v [] h (suc i) le = absurd (omega (arith, le))
cursor_is n c v (x ∷ xs) h zero le = h x (zero, omega arith, refl)
cursor_is n c v (x ∷ xs) h (suc i) le = cursor_is n c v xs (λ y cy. h y (suc cy.0, omega (arith, cy.1), cy.2)) i (omega (arith, le))

-- the circle and the number of an entry give its plane
plane_back : (n c : ℕ) (e : Entry) (x : ℕ) → entry_number n c e ≡ x → (c * n ≤ x / 2) × (x / 2 - c * n ≡ e.plane)
plane_back n c e x q = go e.turned q
  where
    go : (b : Bool) → 2 * (c * n + e.plane) + (Rattle.std.specs.Prelude.if◌then◌else◌ b 1 0) ≡ x → (c * n ≤ x / 2) × (x / 2 - c * n ≡ e.plane)
    go Rattle.std.specs.Prelude.true q = let h : x / 2 ≡ c * n + e.plane = omega (arith, q) in (omega (arith, h), omega (arith, h))
    go Rattle.std.specs.Prelude.false q = let h : x / 2 ≡ c * n + e.plane = omega (arith, q) in (omega (arith, h), omega (arith, h))

kept_length : {A R : Type 0} (undo : ℕ → A → A) (rings : List ℕ → A → R) (done ps : List ℕ) (a : A) → length (unlinked_planes undo rings done ps a) ≡ length ps
kept_length undo rings done [] a = refl
kept_length undo rings done (p ∷ ps) a = ap suc (kept_length undo rings (done ++ p ∷ []) ps a)

-- ---- the circle of a linked plane

abbrev pub circle_nodes : ℕ → Arrays → ℕ → List ℕ
circle_nodes n a c = (lists_of (shape n) a).vertices c

module _ (n count : ℕ) (order : List ℕ) (a : Arrays) (now : Arrangement) (view : arrangement_of n (take count order) a ≡ now) (is : HaveTakenOut n count order a) where
  abbrev out : List ℕ
  out = take count order

  good : StandForCircles n out a
  good = sound_is_good n out a is.sound

  pub ring_there : (r : Ring) → Contains now.rings r → (c : ℕ) × (c < n) × (ring_of n (lists_of (shape n) a) c ≡ r)
  ring_there r cr =
      let (c, cc', q) = Contains-from_map (ring_of n (lists_of (shape n) a)) (filter (λ c. not (is_out out c)) (numbers_below n)) r (subst (λ (v : Arrangement). Contains v.rings r) (sym view) cr) in
      (c, below_small n c (filter_from (λ c. not (is_out out c)) (numbers_below n) c cc').0, q)

  pub linked_small : (c : ℕ) → Contains (linked_of now.rings) c → c < n
  linked_small c cc' =
      let (r, cr, e) = Contains-from_map (λ (r : Ring). r.plane) now.rings c cc' in
      let (d, ld, q) = ring_there r cr in
      subst (λ x. x < n) (ap (λ (r : Ring). r.plane) q ∙ e) ld

  pub short_ring : length a.circles.next ≡ length a.home → (c : ℕ) → Contains (linked_of now.rings) c → (head : ℕ) → head ≡ head_number n c → IsShortRing a.circles head (circle_nodes n a c)
  short_ring same c linked head e = subst (λ h. IsShortRing a.circles h (circle_nodes n a c)) (sym e) (record {
    ring = ring.ring;
    apart = ring.distinct.0;
    short = good.short_circles c lc;
    within = All-from_members (λ x. x < length a.circles.next) (head_number n c ∷ circle_nodes n a c) within;
  })
    where
      lc : c < n
      lc = linked_small c linked

      ring : IsRing a.circles (shape n).circle (head_number n c) (circle_nodes n a c)
      ring = good.stands.circles c lc

      within : (x : ℕ) → Contains (head_number n c ∷ circle_nodes n a c) x → x < length a.circles.next
      within x (zero, lt, e) = let h = head_small n c lc in let r = is.room in omega (arith, h, e, same, r)
      within x (suc k, lt, e) = good.stands.within c x lc (k, omega (arith, lt), e)

  pub vertices_are : (r : Ring) (c : ℕ) → Contains now.rings r → r.plane ≡ c → length ((lists_of (shape n) a).vertices c) ≡ length r.stops
  vertices_are r c cr e =
      let (d, ld, q) = ring_there r cr in
      let same : d ≡ c = ap (λ (r : Ring). r.plane) q ∙ e in
      ap (λ k. length ((lists_of (shape n) a).vertices k)) (sym same)
      ∙ (sym (length-map ((lists_of (shape n) a).vertices d) (λ v. record { node = v; entries = map (entry_numbered n) ((lists_of (shape n) a).entries v) })) ∙ ap (λ (r : Ring). length r.stops) q)

  pub linked_are : linked_of now.rings ≡ still_linked n out
  linked_are = ap (λ (v : Arrangement). linked_of v.rings) (sym view) ∙ planes_of_rings n out (lists_of (shape n) a)

  -- a flag that is set is that of a linked plane
  pub flag_linked : (flags : List Bool) → AreFlags n out flags → (p : ℕ) → p < n → get_or flags p false ≡ true → Contains (linked_of now.rings) p
  flag_linked flags are p lp e = subst (λ ks. Contains ks p) (sym linked_are) (filter_in (λ c. not (is_out out c)) (numbers_below n) p (below_all n p lp) (sym (are.each p lp) ∙ e))

  pub linked_flag : (flags : List Bool) → AreFlags n out flags → (p : ℕ) → Contains (linked_of now.rings) p → (p < n) × (get_or flags p false ≡ true)
  linked_flag flags are p c = let (lp, e) = linked_plane n out p (subst (λ ks. Contains ks p) linked_are c) in (lp, are.each p lp ∙ ap not e)

  -- ---- the stops of the rings

  module _ (same : length a.circles.next ≡ length a.home) (same_vertices : length a.vertices.next ≡ length a.home) where
    abbrev l : RingLists
    l = lists_of (shape n) a

    pub numbers : plane_count now ≡ n
    numbers =
        let rings = ap length linked_are in
        let planes = length-map now.rings (λ (r : Ring). r.plane) in
        let kept = ap (λ (v : Arrangement). length v.unlinked) (sym view) ∙ kept_length (undo n) (rings_at n) [] out a in
        let taken : length out ≡ count = length-take-le count order (let size = is.size in let most = is.most in omega (arith, size, most)) in
        let all = is.all count (omega arith) in
        omega (arith, rings, planes, kept, taken, all)

    abbrev read : ℕ → RingStop
    read v = record { node = v; entries = map (entry_numbered n) (l.entries v) }

    -- ---- one stop

    module _ (c m : ℕ) (s : RingStop) (at : IsStopAt now.rings c m s) where
      here : (d : ℕ) × (d < n) × (ring_of n l d ≡ at.ring)
      here = ring_there at.ring at.listed

      same_circle : here.0 ≡ c
      same_circle = ap (λ (r : Ring). r.plane) here.2 ∙ at.plane

      pub circle_small : c < n
      circle_small = subst (λ x. x < n) same_circle here.1

      stops_are : at.ring.stops ≡ map read (l.vertices c)
      stops_are = ap (λ (r : Ring). r.stops) (sym here.2) ∙ ap (λ d. map read (l.vertices d)) same_circle

      stop_is : (v : ℕ) × (slice_get (l.vertices c) m ≡ Some v) × (read v ≡ s)
      stop_is = place_in_map read (l.vertices c) m s (subst (λ (xs : List RingStop). slice_get xs m ≡ Some s) stops_are at.is)

      pub node_at : slice_get (l.vertices c) m ≡ Some s.node
      node_at = stop_is.1 ∙ ap (λ x. Some x) (ap (λ (x : RingStop). x.node) stop_is.2)

      entries_are : s.entries ≡ map (entry_numbered n) (l.entries s.node)
      entries_are = sym (ap (λ (x : RingStop). x.entries) stop_is.2) ∙ ap (λ v. map (entry_numbered n) (l.entries v)) (ap (λ (x : RingStop). x.node) stop_is.2)

      size : length at.ring.stops ≡ length (l.vertices c)
      size = ap length stops_are ∙ length-map (l.vertices c) read

      entry_size : length s.entries ≡ length (l.entries s.node)
      entry_size = ap length entries_are ∙ length-map (l.entries s.node) (entry_numbered n)

      linked : Contains (linked_of now.rings) c
      linked = subst (Contains (linked_of now.rings)) at.plane (Contains-map (λ (r : Ring). r.plane) now.rings at.ring at.listed)

      ring : (head : ℕ) → head ≡ head_number n c → IsShortRing a.circles head (l.vertices c)
      ring head e = short_ring same c linked head e

      listed : Contains (l.vertices c) s.node
      listed = from_place (l.vertices c) m s.node node_at

      pub node_small : s.node < length a.circles.next
      node_small = good.stands.within c s.node circle_small listed

      -- ---- the next stop

      next_at : (head : ℕ) → head ≡ head_number n c → IsAtPlace head (l.vertices c) (get_or a.circles.next s.node 0) (m + 1)
      next_at head e = at_next a.circles head (l.vertices c) s.node m (ring head e) (at_place head (l.vertices c) m s.node node_at) (no_head a.circles head (l.vertices c) m s.node (ring head e) node_at)

      pub stops_end : (head : ℕ) → head ≡ head_number n c → get_or a.circles.next s.node 0 ≡ head → m + 1 ≡ length at.ring.stops
      stops_end head e q = ends a.circles head (l.vertices c) (get_or a.circles.next s.node 0) (m + 1) (ring head e) (next_at head e) q ∙ sym size

      pub stops_go_on : (head : ℕ) → head ≡ head_number n c → get_or a.circles.next s.node 0 ≢ head
          → (t : RingStop) × (slice_get at.ring.stops (m + 1) ≡ Some t) × (t.node ≡ get_or a.circles.next s.node 0)
      stops_go_on head e ne =
          let x : ℕ = get_or a.circles.next s.node 0 in
          let q = place_is head (l.vertices c) (m + 1) x (next_at head e) (goes_on head (l.vertices c) x (m + 1) (next_at head e) ne) in
          (read x, subst (λ (xs : List RingStop). slice_get xs (m + 1) ≡ Some (read x)) (sym stops_are) (slice_get-map read (l.vertices c) (m + 1) ∙ ap (option_map read) q), refl)

      pub few_stops : length at.ring.stops ≤ 2 ^ 22
      few_stops =
          let short = (ring (head_number n c) refl).short in
          let room = is.room in
          let few = is.few in
          let square : n * n ≤ 1024 * 1024 = mul-le-mul few few in
          omega (arith, size, short, same, room, square)

      -- ---- the entries of the stop

      entry_ring : IsShortRing a.vertices s.node (l.entries s.node)
      entry_ring = record {
        ring = at_vertex.ring;
        apart = at_vertex.distinct.0;
        short = good.short_vertices c s.node circle_small listed;
        within = All-from_members (λ x. x < length a.vertices.next) (s.node ∷ l.entries s.node) within;
      }
        where
          at_vertex : IsRing a.vertices (home_of a) s.node (l.entries s.node)
          at_vertex = good.stands.vertices c s.node circle_small listed

          within : (x : ℕ) → Contains (s.node ∷ l.entries s.node) x → x < length a.vertices.next
          within x (zero, lt, e) = let small = node_small in omega (arith, e, small, same, same_vertices)
          within x (suc k, lt, e) = good.stands.entries_within c s.node x circle_small listed (k, omega (arith, lt), e)

      cursor_at : (i : ℕ) → i ≤ length s.entries → cursor (plane_count now) c s.node (drop i s.entries) ≡ get_or (l.entries s.node ++ s.node ∷ []) i 0
      cursor_at i le =
          ap (λ k. cursor k c s.node (drop i s.entries)) numbers
          ∙ (ap (λ xs. cursor n c s.node (drop i xs)) entries_are
          ∙ cursor_is n c s.node (l.entries s.node) (λ x cx. good.numbered c s.node x circle_small listed cx) i (omega (arith, le, entry_size)))

      to_place : (i x : ℕ) → IsAtEntry (plane_count now) c s i x → IsAtPlace s.node (l.entries s.node) x i
      to_place i x h = record { within = let w = h.within in omega (arith, w, entry_size); is = h.is ∙ cursor_at i h.within }

      pub entry_within : (i x : ℕ) → IsAtEntry (plane_count now) c s i x → x < length a.vertices.next
      entry_within i x h = node_within a.vertices s.node (l.entries s.node) x i entry_ring (to_place i x h)

      pub first_cursor : get_or a.vertices.next s.node 0 ≡ cursor (plane_count now) c s.node s.entries
      first_cursor = (at_start a.vertices s.node (l.entries s.node) entry_ring.ring).is ∙ sym (cursor_at 0 (omega arith))

      pub entries_end : (i x : ℕ) → IsAtEntry (plane_count now) c s i x → x ≡ s.node → i ≡ length s.entries
      entries_end i x h e = ends a.vertices s.node (l.entries s.node) x i entry_ring (to_place i x h) e ∙ sym entry_size

      entry_listed : (i x : ℕ) → IsAtEntry (plane_count now) c s i x → x ≢ s.node → slice_get (l.entries s.node) i ≡ Some x
      entry_listed i x h ne = place_is s.node (l.entries s.node) i x (to_place i x h) (goes_on s.node (l.entries s.node) x i (to_place i x h) ne)

      numbered : (i x : ℕ) → IsAtEntry (plane_count now) c s i x → x ≢ s.node → entry_number n c (entry_numbered n x) ≡ x
      numbered i x h ne = good.numbered c s.node x circle_small listed (from_place (l.entries s.node) i x (entry_listed i x h ne))

      pub plane_ahead : (i x : ℕ) → IsAtEntry (plane_count now) c s i x → x ≢ s.node → c * n ≤ x / 2
      plane_ahead i x h ne = (plane_back n c (entry_numbered n x) x (numbered i x h ne)).0

      pub entry_is : (i x : ℕ) → IsAtEntry (plane_count now) c s i x → x ≢ s.node → slice_get s.entries i ≡ Some (record { plane = x / 2 - c * n; turned = x % 2 == 1 })
      entry_is i x h ne =
          subst (λ xs. slice_get xs i ≡ Some (record { plane = x / 2 - c * n; turned = x % 2 == 1 })) (sym entries_are)
          (slice_get-map (entry_numbered n) (l.entries s.node) i ∙ (ap (option_map (entry_numbered n)) (entry_listed i x h ne)
          ∙ ap (λ (p : ℕ). Some (record { plane = p; turned = x % 2 == 1 })) (sym (plane_back n c (entry_numbered n x) x (numbered i x h ne)).1)))

      pub next_cursor : (i x : ℕ) → IsAtEntry (plane_count now) c s i x → i < length s.entries → get_or a.vertices.next x 0 ≡ cursor (plane_count now) c s.node (drop (i + 1) s.entries)
      next_cursor i x h lt =
          let ne : x ≢ s.node = λ q. let e = entries_end i x h q in omega (arith, lt, e) in
          (at_next a.vertices s.node (l.entries s.node) x i entry_ring (to_place i x h) ne).is ∙ sym (cursor_at (i + 1) (omega (arith, lt)))

    -- ---- the first stop

    pub first_is : (c : ℕ) (s : RingStop) → IsStopAt now.rings c 0 s → (head : ℕ) → head ≡ head_number n c → get_or a.circles.next head 0 ≡ s.node
    first_is c s at head e =
        let start = at_start a.circles head (l.vertices c) (ring c 0 s at head e).ring in
        let lt = slice_get_within (l.vertices c) 0 s.node (node_at c 0 s at) in
        same_Some (get_or a.circles.next head 0) s.node (sym (place_is head (l.vertices c) 0 (get_or a.circles.next head 0) start lt) ∙ node_at c 0 s at)
