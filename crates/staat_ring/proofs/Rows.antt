-- The numbers of entries, of heads and of vertices: each tells its circle, and an entry its plane and its sense, and stands
-- at one stop of its circle. A ring is linked node by node, and rings one after another.
use Rattle.std.proofs.Common.{rules, ◌≡◌, ℕ, ◌+◌, ◌*◌, ◌/◌, ◌<◌, ◌≤◌, sym, ap, ◌∙◌, arith, refl, Bool, true, false, if◌then◌else◌, zero, [], ◌∷◌, List, All, Contains, eq-eqb, ◌≢◌, ⊎_elim, suc, subst, ◌++◌, length, get_or, set, take, ◌⊎◌, inl, inr}
use Rattle.std.proofs.Math.Nat.{add-mod_left, mod-eq_of_lt, mul-le-mul}
use Rattle.std.proofs.lemmas.Nat.{div-mul-add}
use Rattle.staat_ring.specs.RingViews.{shape}
use Rattle.staat_ring.specs.Numbered.{plane_of, HasEntry, head_number, node_number, entry_number, entry_numbered, Row, all_of, row_at, vertex_row}
use Rattle.staat_ring.proofs.Unlinking.{plane_of_entry}
use Rattle.std.specs.Prelude.{Some, map, slice_get}
use Rattle.std.proofs.lemmas.List.Elements.{All-contains, All-map, All-weaker, All-cons, All-get_or, All-more, All-take, Contains-get_or}
use Rattle.staat_vec.specs.declared.vector.V3.{V3}
use Rattle.staat_ring.specs.declared.entry.Entry.{Entry}
use Rattle.staat_ring.specs.Rings.{IsRingOf, Ring, RingStop, crossing, stop_of, vertex_of}
use Rattle.staat_vec.proofs.ListLaws.{map_at_place, only_one, Contains-from_map, Contains-map}
use Rattle.staat_vec.proofs.Unique.{from_place, Contains-front, Contains-later}
use Rattle.staat_vec.proofs.Naturals.{eq_test_false, same_or}
use Rattle.std.proofs.lemmas.Grind.{common_steps, get_or-set_at}
use Rattle.std.proofs.lemmas.Bool.Decides.{nat_tests}
use Rattle.std.proofs.lemmas.List.{get_or-set_other, take_more, get_or-map, get_or_default, length-map}
use Rattle.std.proofs.Math.ListN.{length-set}
use Rattle.staat_ring.specs.Links.{Apart, Chain, Distinct, Links, IsLinkedRing, append, Arrays}
use Rattle.staat_ring.proofs.Chains.{last_of, apart_last, kept, prev_last, ring-append}
use Rattle.staat_ring.specs.Linking.{AreHomedAt, AreLinked, IsSameAt, AreSized, AreStopsLinked, CanBeLinked, HoldsCircle, IsKeptAt, rows_of}
use Rattle.staat_ring.proofs.RingLemmas.{from_apart, apart_from, distinct_by}
use Rattle.staat_model.proofs.Members.{All-from_members}
use Rattle.staat_ring.specs.Builds.{slot_at}
use Rattle.std.proofs.lemmas.Option.{get_or_from_slice_get, slice_get_within}

abbrev number : ℕ → ℕ → ℕ → ℕ → ℕ
number n c p s = 2 * (c * n + p) + s

number_small : (n c p s : ℕ) → c < n → p < n → s < 2 → number n c p s < 2 * (n * n)
number_small n c p s hc hp hs = search (rules, mul-le-mul)

half : (n c p s : ℕ) → s < 2 → number n c p s / 2 ≡ c * n + p
half n c p s hs = omega arith

circle_small : (n c p s : ℕ) → p < n → s < 2 → number n c p s / 2 / n ≡ c
circle_small n c p s hp hs = ap (λ x. x / n) (half n c p s hs) ∙ div-mul-add c n p hp

-- an entry or a head is of its circle
circle_of_number : (n c p s : ℕ) → c < n → p < n → s < 2 → (shape n).circle (number n c p s) ≡ c
circle_of_number n c p s hc hp hs = ap (λ x. x / 2 / n) (mod-eq_of_lt (number_small n c p s hc hp hs)) ∙ circle_small n c p s hp hs

-- and a vertex, which is numbered by its first entry
circle_of_vertex : (n c p s : ℕ) → c < n → p < n → s < 2 → (shape n).circle (2 * (n * n) + number n c p s) ≡ c
circle_of_vertex n c p s hc hp hs = ap (λ x. x / 2 / n) (add-mod_left (2 * (n * n)) (number n c p s)) ∙ circle_of_number n c p s hc hp hs

-- two numbers that are equal are of one circle, one plane and one sense
number_once : (n c p s d q t : ℕ) → p < n → q < n → s < 2 → t < 2 → number n c p s ≡ number n d q t → (c ≡ d) × (p ≡ q) × (s ≡ t)
number_once n c p s d q t hp hq hs ht e =
    let one : c ≡ d = sym (circle_small n c p s hp hs) ∙ (ap (λ x. x / 2 / n) e ∙ circle_small n d q t hq ht) in
    let two : p ≡ q = sym (plane_of_entry n p c s hp hs) ∙ (ap (plane_of n) e ∙ plane_of_entry n q d t hq ht) in
    (one, two, sense one two)
  where
    sense : c ≡ d → p ≡ q → s ≡ t
    sense ec ep = let m : c * n + p ≡ d * n + q = λ i. ec i * n + ep i in omega (arith, m, e)

-- ---- entries

abbrev bit : Bool → ℕ
bit b = if b then 1 else 0

bit_small : (b : Bool) → bit b < 2
bit_small true = omega arith
bit_small false = omega arith

bit_once : (a b : Bool) → bit a ≡ bit b → a ≡ b
bit_once true true e = refl
bit_once false false e = refl
bit_once true false e = absurd (omega (arith, e))
bit_once false true e = absurd (omega (arith, e))

pub one_entry : (n c : ℕ) (e f : Entry) → e.plane < n → f.plane < n → entry_number n c e ≡ entry_number n c f → e ≡ f
one_entry n c e f le lf q = search (rules, number_once, bit_small, bit_once)

pub entry_small : (n c : ℕ) (e : Entry) → c < n → e.plane < n → entry_number n c e < 2 * (n * n)
entry_small n c e lc le = number_small n c e.plane (bit e.turned) lc le (bit_small e.turned)

pub entries_within : (n c : ℕ) (es : List Entry) (m : ℕ) → c < n → All (λ e. e.plane < n) es → 4 * (n * n) ≤ m → All (λ x. x < m) (map (entry_number n c) es)
entries_within n c es m lc small room = All-map (λ x. x < m) (entry_number n c) es (All-weaker (λ e. e.plane < n) (λ e. entry_number n c e < m) (λ e le. let s = entry_small n c e lc le in omega (arith, s, room)) es small)

pub entry_circle : (n c : ℕ) (e : Entry) → c < n → e.plane < n → (shape n).circle (entry_number n c e) ≡ c
entry_circle n c e lc le = circle_of_number n c e.plane (bit e.turned) lc le (bit_small e.turned)

-- the entry that a number tells
pub entry_back : (n c : ℕ) (e : Entry) → e.plane < n → entry_numbered n (entry_number n c e) ≡ e
entry_back n c e le = search (rules, eq-eqb, plane_of_entry, eq_test_false, bit_small)

-- ---- the nodes of a circle

pub first_entry : (n c : ℕ) (es : List Entry) → HasEntry es → (e : Entry) × Contains es e × (node_number n c es ≡ 2 * (n * n) + entry_number n c e)
first_entry n c [] h = absurd (omega (arith, h))
first_entry n c (e ∷ es) h = (e, (zero, omega arith, refl), refl)

module _ (n c : ℕ) (lc : c < n) (es : List Entry) (some : HasEntry es) (small : (e : Entry) → Contains es e → e.plane < n) where
  pub node_great : 2 * (n * n) ≤ node_number n c es
  node_great = let (e, ce, q) = first_entry n c es some in omega (arith, q)

  pub node_small : node_number n c es < 4 * (n * n)
  node_small = let (e, ce, q) = first_entry n c es some in let s = entry_small n c e lc (small e ce) in omega (arith, q, s)

  pub node_circle : (shape n).circle (node_number n c es) ≡ c
  node_circle = let (e, ce, q) = first_entry n c es some in ap (shape n).circle q ∙ circle_of_vertex n c e.plane (bit e.turned) lc (small e ce) (bit_small e.turned)

head_is : (n c : ℕ) → head_number n c ≡ 2 * (c * n + c) + 0
head_is n c = omega arith

pub head_small : (n c : ℕ) → c < n → head_number n c < 2 * (n * n)
head_small n c lc = let s = number_small n c c 0 lc lc (omega arith) in let e = head_is n c in omega (arith, s, e)

pub head_circle : (n c : ℕ) → c < n → (shape n).circle (head_number n c) ≡ c
head_circle n c lc = ap (shape n).circle (head_is n c) ∙ circle_of_number n c c 0 lc lc (omega arith)

-- ---- an entry stands at one stop

pub entry_once : (planes : List V3) (linked : List ℕ) (r : Ring) → IsRingOf planes linked r → (k m : ℕ) (s t : RingStop) (e : Entry) → slice_get r.stops k ≡ Some s → slice_get r.stops m ≡ Some t → Contains s.entries e → Contains t.entries e → k ≡ m
entry_once planes linked r is k m s t e ks mt ce de =
    is.circle.vertices.once k m (vertex_of planes r.plane s.entries) (place k s ks) (place m t mt ∙ ap (λ v. Some v) (sym (agree m t de mt) ∙ agree k s ce ks))
  where
    place : (k : ℕ) (s : RingStop) → slice_get r.stops k ≡ Some s → slice_get (map (λ s. s.vertex) (map (stop_of planes r.plane) r.stops)) k ≡ Some (vertex_of planes r.plane s.entries)
    place k s ks = map_at_place (λ s. s.vertex) (map (stop_of planes r.plane) r.stops) k (stop_of planes r.plane s) (map_at_place (stop_of planes r.plane) r.stops k s ks)

    agree : (k : ℕ) (s : RingStop) → Contains s.entries e → slice_get r.stops k ≡ Some s → crossing planes r.plane e ≡ vertex_of planes r.plane s.entries
    agree k s ce ks = All-contains (λ e. crossing planes r.plane e ≡ vertex_of planes r.plane s.entries) s.entries e (All-contains (λ s. All (λ e. crossing planes r.plane e ≡ vertex_of planes r.plane s.entries) s.entries) r.stops s is.agree (from_place r.stops k s ks)) ce

-- ---- a ring is linked node by node, and rings one after another

-- each row's nodes are below n, and no two rows have a node in common
pub record AreRows (n : ℕ) (rows : List Row) : Type 0 where
  pub within : (k : ℕ) → k < length rows → All (λ x. x < n) (all_of (row_at rows k))
  pub apart : (i k : ℕ) (y : ℕ) → i < length rows → k < length rows → i ≢ k
      → Contains (all_of (row_at rows i)) y
      → Apart y (all_of (row_at rows k))

-- ---- lists

apart_take : (y k : ℕ) (xs : List ℕ) → Apart y xs → Apart y (take k xs)
apart_take y zero xs a = tt
apart_take y (suc k) [] a = tt
apart_take y (suc k) (x ∷ xs) a = (a.0, apart_take y k xs a.1)

distinct_take : (k : ℕ) (xs : List ℕ) → Distinct xs → Distinct (take k xs)
distinct_take zero xs d = tt
distinct_take (suc k) [] d = tt
distinct_take (suc k) (x ∷ xs) d = (apart_take x k xs d.0, distinct_take k xs d.1)

nth_apart : (k d : ℕ) (xs : List ℕ) → k < length xs → Distinct xs → Apart (get_or xs k d) (take k xs)
nth_apart k d [] lt s = absurd (omega arith)
nth_apart zero d (x ∷ xs) lt s = tt
nth_apart (suc k) d (x ∷ xs) lt s = (λ e. from_apart x xs (get_or xs k d) s.0 (Contains-get_or xs k d (omega arith)) (sym e), nth_apart k d xs (omega arith) s.1)

apart_front : (y x : ℕ) (xs : List ℕ) → Apart y (xs ++ x ∷ []) → Apart y xs × (x ≢ y)
apart_front y x [] a = (tt, a.0)
apart_front y x (z ∷ xs) a = let r = apart_front y x xs a.1 in ((a.0, r.0), r.1)

last_in : (a : ℕ) (xs : List ℕ) → Contains (a ∷ xs) (last_of a xs)
last_in a [] = (0, omega arith, refl)
last_in a (x ∷ xs) = let r = last_in x xs in (suc r.0, omega (arith, r.1), r.2)

-- ---- one node more

same_append : (s : Links) (h x : ℕ) (xs : List ℕ) → IsLinkedRing s h xs → (y : ℕ) → Apart y (h ∷ xs ++ x ∷ []) → IsSameAt s (append h x s) y
same_append s h x xs ring y a = search (rules, apart_last, kept, prev_last, apart_front)

-- so far: the ring goes over the nodes done, and the words of others are as at first
pub record IsPartly (first s : Links) (h : ℕ) (done : List ℕ) : Type 0 where
  pub ring : IsLinkedRing s h done
  pub others : (y : ℕ) → Apart y (h ∷ done) → IsSameAt first s y
  pub size : length s.next ≡ length first.next
  pub same : length s.prev ≡ length s.next

pub partly_more : (first s new : Links) (h x k : ℕ) (nodes : List ℕ) → k < length nodes → x ≡ get_or nodes k 0 → new ≡ append h x s → h < length first.next → All (λ y. y < length first.next) nodes → Distinct (h ∷ nodes)
    → IsPartly first s h (take k nodes) → IsPartly first new h (take (k + 1) nodes)
partly_more first s new h x k nodes lt x_is e lh inside d p =
    subst (λ (t : Links). IsPartly first t h (take (k + 1) nodes)) (sym (e ∙ ap (λ y. append h y s) x_is)) (subst (IsPartly first (append h node s) h) (sym (take_more nodes k 0 lt)) (record {
      ring = ring-append s h node done (omega (arith, node_in, p.size)) (omega (arith, node_in, p.size, p.same)) (omega (arith, last_in_links, p.size, prev_last s h h done p.ring)) (omega (arith, lh, p.size, p.same))
          (apart_take h k nodes d.0, distinct_take k nodes d.1) ((λ e. from_apart h nodes node d.0 (Contains-get_or nodes k 0 lt) (sym e)), nth_apart k 0 nodes lt d.1) p.ring;
      others = λ y ay.
          let f = apart_front y node done ay.1 in
          let old = p.others y (ay.0, f.0) in
          let now = same_append s h node done p.ring y ay in
          record { next = now.next ∙ old.next; prev = now.prev ∙ old.prev };
      size = length-set (set s.next node h) (get_or s.prev h 0) node ∙ (length-set s.next node h ∙ p.size);
      same = length-set (set s.prev node (get_or s.prev h 0)) h node ∙ (length-set s.prev node (get_or s.prev h 0) ∙ (p.same ∙ sym (length-set (set s.next node h) (get_or s.prev h 0) node ∙ length-set s.next node h)));
    }))
  where
    node : ℕ
    node = get_or nodes k 0

    done : List ℕ
    done = take k nodes

    node_in : node < length first.next
    node_in = All-get_or (λ y. y < length first.next) nodes k 0 lt inside

    last_in_links : last_of h done < length first.next
    last_in_links = All-contains (λ y. y < length first.next) (h ∷ done) (last_of h done) (All-cons (λ y. y < length first.next) h done lh (All-take (λ y. y < length first.next) k nodes inside)) (last_in h done)

-- the node v is the home of one entry more
pub homed_more : (old now : List ℕ) (v x k : ℕ) (nodes : List ℕ) → k < length nodes → x ≡ get_or nodes k 0 → x < length now → AreHomedAt old now v (take k nodes) → AreHomedAt old (set now x v) v (take (k + 1) nodes)
homed_more old now v x k nodes lt x_is lx h = grind (arith, common_steps, nat_tests, ⊎_elim, get_or-set_other, take_more, get_or-set_at, length-set, All-more, All-weaker, same_or, apart_front)

-- ---- rings

chain_same : (s t : Links) (a : ℕ) (xs : List ℕ) (b : ℕ) → IsSameAt s t a → IsSameAt s t b → ((y : ℕ) → Contains xs y → IsSameAt s t y) → Chain s a xs b → Chain t a xs b
chain_same s t a [] b at_a at_b same c = (at_a.next ∙ c.0, at_b.prev ∙ c.1)
chain_same s t a (x ∷ xs) b at_a at_b same c =
    let at_x = same x (Contains-front x xs) in
    (at_a.next ∙ c.0, (at_x.prev ∙ c.1.0, chain_same s t x xs b at_x at_b (λ y cy. same y (Contains-later x xs y cy)) c.1.1))

pub ring_same : (s t : Links) (h : ℕ) (xs : List ℕ) → ((y : ℕ) → Contains (h ∷ xs) y → IsSameAt s t y) → IsLinkedRing s h xs → IsLinkedRing t h xs
ring_same s t h xs same c = chain_same s t h xs h (same h (Contains-front h xs)) (same h (Contains-front h xs)) (λ y cy. same y (Contains-later h xs y cy)) c

pub linked_more : (s t : Links) (rows : List Row) (m n : ℕ) → m < length rows → AreRows n rows → IsLinkedRing t (row_at rows m).head (row_at rows m).nodes → ((y : ℕ) → Apart y (all_of (row_at rows m)) → IsSameAt s t y) → AreLinked s rows m → AreLinked t rows (m + 1)
linked_more s t rows m n lm rules ring others l = record {
  linked = λ k lt lk. ⊎_elim {C = IsLinkedRing t (row_at rows k).head (row_at rows k).nodes}
      (λ e. subst (λ i. IsLinkedRing t (row_at rows i).head (row_at rows i).nodes) (sym e) ring)
      (λ ne. ring_same s t (row_at rows k).head (row_at rows k).nodes (λ y cy. others y (rules.apart k m y lk lm ne cy)) (l.linked k (omega (arith, lt, ne)) lk))
      (same_or k m);
  alone = λ k no lk. ring_same s t (row_at rows k).head []
      (λ y cy. others y (rules.apart k m y lk lm (λ e. no (omega (arith, e))) (subst (Contains (all_of (row_at rows k))) (sym (only_one (row_at rows k).head y cy)) (Contains-front (row_at rows k).head (row_at rows k).nodes))))
      (l.alone k (λ lt. no (omega (arith, lt))) lk);
}

-- ---- the rings of a circle's stops have no node in common, and are linked one after another

module _ (n c : ℕ) (lc : c < n) (stops : List (List Entry)) (can : CanBeLinked n c stops) where
  abbrev slot : ℕ → List Entry
  slot k = slot_at stops k

  abbrev node : ℕ → ℕ
  node k = node_number n c (slot k)

  abbrev row : ℕ → Row
  row k = vertex_row n c (slot k)

  pub slot_in : (k : ℕ) → k < length stops → Contains stops (slot k)
  slot_in k lt = (k, lt, get_or_default stops k (slot k) [] lt)

  pub some : (k : ℕ) → k < length stops → HasEntry (slot k)
  some k lt = All-contains HasEntry stops (slot k) can.some (slot_in k lt)

  pub small : (k : ℕ) → k < length stops → (e : Entry) → Contains (slot k) e → e.plane < n
  small k lt e ce = All-contains (λ e. e.plane < n) (slot k) e (All-contains (All (λ e. e.plane < n)) stops (slot k) can.small (slot_in k lt)) ce

  pub great : (k : ℕ) → k < length stops → 2 * (n * n) ≤ node k
  great k lt = node_great n c lc (slot k) (some k lt) (small k lt)

  pub node_within : (k : ℕ) → k < length stops → node k < 4 * (n * n)
  node_within k lt = node_small n c lc (slot k) (some k lt) (small k lt)

  pub circle_of_node : (k : ℕ) → k < length stops → (shape n).circle (node k) ≡ c
  circle_of_node k lt = node_circle n c lc (slot k) (some k lt) (small k lt)

  pub number_within : (k : ℕ) → k < length stops → (e : Entry) → Contains (slot k) e → entry_number n c e < 2 * (n * n)
  number_within k lt e ce = entry_small n c e lc (small k lt e ce)

  -- two stops have two nodes
  pub one_node : (k m : ℕ) → k < length stops → m < length stops → node k ≡ node m → k ≡ m
  one_node k m lk lm q =
      let (e, ce, a) = first_entry n c (slot k) (some k lk) in
      let (f, cf, b) = first_entry n c (slot m) (some m lm) in
      let s : e ≡ f = one_entry n c e f (small k lk e ce) (small m lm f cf) (omega (arith, a, b, q)) in
      can.apart k m e lk lm ce (subst (Contains (slot m)) (sym s) cf)

  -- an entry is of one stop
  pub one_stop : (k m : ℕ) (e f : Entry) → k < length stops → m < length stops → Contains (slot k) e → Contains (slot m) f → entry_number n c e ≡ entry_number n c f → k ≡ m
  one_stop k m e f lk lm ce cf q =
      let s : e ≡ f = one_entry n c e f (small k lk e ce) (small m lm f cf) q in
      can.apart k m e lk lm ce (subst (Contains (slot m)) (sym s) cf)

  -- a node of the ring of a stop: its head, or one of its entries
  pub record IsNodeOf (k y : ℕ) : Type 0 where
    pub way : (y ≡ node k) ⊎ ((e : Entry) × Contains (slot k) e × (entry_number n c e ≡ y))

  pub node_of_row : (k y : ℕ) → Contains (all_of (vertex_row n c (slot k))) y → IsNodeOf k y
  node_of_row k y (zero, lt, e) = record { way = inl (sym e) }
  node_of_row k y (suc i, lt, e) = record { way = inr (Contains-from_map (entry_number n c) (slot k) y (i, omega (arith, lt), e)) }

  pub circle_of_row : (k y : ℕ) → k < length stops → Contains (all_of (vertex_row n c (slot k))) y → (shape n).circle y ≡ c
  circle_of_row k y lk cy = ⊎_elim {C = (shape n).circle y ≡ c} (λ e. ap (shape n).circle e ∙ circle_of_node k lk)
      (λ x. ap (shape n).circle (sym x.2) ∙ entry_circle n c x.0 lc (small k lk x.0 x.1)) (node_of_row k y cy).way

  pub row_within : (k y : ℕ) → k < length stops → Contains (all_of (vertex_row n c (slot k))) y → y < 4 * (n * n)
  row_within k y lk cy = ⊎_elim {C = y < 4 * (n * n)} (λ e. subst (λ x. x < 4 * (n * n)) (sym e) (node_within k lk))
      (λ x. let s = number_within k lk x.0 x.1 in let q = x.2 in omega (arith, s, q)) (node_of_row k y cy).way

  row_apart : (i k y z : ℕ) → i < length stops → k < length stops → i ≢ k → IsNodeOf i y → IsNodeOf k z → z ≢ y
  row_apart i k y z li lk ne a b q = ⊎_elim {C = ⊥}
      (λ ey. ⊎_elim {C = ⊥} (λ ez. ne (one_node i k li lk (sym ey ∙ (sym q ∙ ez))))
      (λ x. let s = number_within k lk x.0 x.1 in let g = great i li in let w = x.2 in absurd (omega (arith, s, g, w, q, ey))) b.way)
      (λ x. ⊎_elim {C = ⊥} (λ ez. let s = number_within i li x.0 x.1 in let g = great k lk in let w = x.2 in absurd (omega (arith, s, g, w, q, ez)))
      (λ w. ne (one_stop i k x.0 w.0 li lk x.1 w.1 (x.2 ∙ (sym q ∙ sym w.2)))) b.way) a.way

  pub row_distinct : (k : ℕ) → k < length stops → Distinct (all_of (vertex_row n c (slot k)))
  row_distinct k lk = (
    apart_from (node k) (map (entry_number n c) (slot k)) (λ y cy q. let (e, ce, w) = Contains-from_map (entry_number n c) (slot k) y cy in let s = number_within k lk e ce in let g = great k lk in absurd (omega (arith, s, g, w, q))),
    can.distinct k lk,
  )

  -- ---- the rows

  pub row_is : (k : ℕ) → k < length stops → row_at (rows_of n c stops) k ≡ vertex_row n c (slot k)
  row_is k lk = search (rules, get_or-map, get_or_default, length-map)

  pub rows_length : length (rows_of n c stops) ≡ length stops
  rows_length = length-map stops (vertex_row n c)

  of_rows : (k : ℕ) → k < length (rows_of n c stops) → k < length stops
  of_rows k lt = subst (λ m. k < m) rows_length lt

  pub rows : AreRows (4 * (n * n)) (rows_of n c stops)
  rows = record {
    within = λ k lt. subst (λ (r : Row). All (λ x. x < 4 * (n * n)) (all_of r)) (sym (row_is k (of_rows k lt)))
        (All-from_members (λ x. x < 4 * (n * n)) (all_of (vertex_row n c (slot k))) (λ y cy. row_within k y (of_rows k lt) cy));
    apart = λ i k y li lk ne cy. subst (λ (r : Row). Apart y (all_of r)) (sym (row_is k (of_rows k lk)))
        (apart_from y (all_of (vertex_row n c (slot k))) (λ z cz. row_apart i k y z (of_rows i li) (of_rows k lk) ne (node_of_row i y (subst (λ (r : Row). Contains (all_of r) y) (row_is i (of_rows i li)) cy)) (node_of_row k z cz)));
  }

  -- ---- the ring of the circle

  abbrev nodes : List ℕ
  nodes = map (node_number n c) stops

  pub node_in : (y : ℕ) → Contains nodes y → (k : ℕ) × (k < length stops) × (node k ≡ y)
  node_in y cy =
      let (es, (k, lt, e), q) = Contains-from_map (node_number n c) stops y cy in
      (k, lt, ap (node_number n c) (get_or_default stops k [] es lt ∙ e) ∙ q)

  pub nodes_distinct : Distinct nodes
  nodes_distinct = distinct_by (node_number n c) stops (λ k m x y kx my e.
      let lk = slice_get_within stops k x kx in
      let lm = slice_get_within stops m y my in
      one_node k m lk lm (ap (node_number n c) (get_or_from_slice_get stops k x [] kx) ∙ (e ∙ sym (ap (node_number n c) (get_or_from_slice_get stops m y [] my)))))

  pub circle_distinct : Distinct (head_number n c ∷ nodes)
  circle_distinct = (
    apart_from (head_number n c) nodes (λ y cy q. let (k, lt, e) = node_in y cy in let g = great k lt in let h = head_small n c lc in absurd (omega (arith, g, h, e, q))),
    nodes_distinct,
  )

  pub nodes_within : All (λ x. x < 4 * (n * n)) nodes
  nodes_within = All-from_members (λ x. x < 4 * (n * n)) nodes (λ y cy. let (k, lt, e) = node_in y cy in subst (λ x. x < 4 * (n * n)) e (node_within k lt))

  pub circle_of_ring : (y : ℕ) → Contains (head_number n c ∷ nodes) y → (shape n).circle y ≡ c
  circle_of_ring y (zero, lt, e) = ap (shape n).circle (sym e) ∙ head_circle n c lc
  circle_of_ring y (suc i, lt, e) = let (k, lk, q) = node_in y (i, omega (arith, lt), e) in ap (shape n).circle (sym q) ∙ circle_of_node k lk

  -- ---- one more

  module _ (m : ℕ) (lm : m < length stops) (first s t : Links) (old now new : List ℕ) (so_far : AreStopsLinked n c stops m first s old now)
      (ring : IsLinkedRing t (node_number n c (slot m)) (map (entry_number n c) (slot m)))
      (others : (y : ℕ) → Apart y (all_of (row m)) → IsSameAt s t y) (length_same : length t.next ≡ length s.next)
      (homed : AreHomedAt now new (node_number n c (slot m)) (map (entry_number n c) (slot m)))
      (within : All (λ x. x < length now) new) where
    in_rows : m < length (rows_of n c stops)
    in_rows = subst (λ k. m < k) (sym rows_length) lm

    here : All (λ e. get_or new (entry_number n c e) 0 ≡ node_number n c (slot m)) (slot m)
    here = All-from_members (λ e. get_or new (entry_number n c e) 0 ≡ node_number n c (slot m)) (slot m)
        (λ e ce. All-contains (λ x. get_or new x 0 ≡ node_number n c (slot m)) (map (entry_number n c) (slot m)) (entry_number n c e) homed.here (Contains-map (entry_number n c) (slot m) e ce))

    there : (k : ℕ) → k < length stops → k ≢ m → All (λ e. get_or now (entry_number n c e) 0 ≡ node_number n c (slot k)) (slot k) → All (λ e. get_or new (entry_number n c e) 0 ≡ node_number n c (slot k)) (slot k)
    there k lk ne old_words = All-from_members (λ e. get_or new (entry_number n c e) 0 ≡ node_number n c (slot k)) (slot k) (λ e ce.
        homed.others (entry_number n c e) (apart_from (entry_number n c e) (map (entry_number n c) (slot m)) (λ y cy q.
        let (f, cf, ef) = Contains-from_map (entry_number n c) (slot m) y cy in
        ne (sym (one_stop m k f e lm lk cf ce (ef ∙ q)))))
        ∙ All-contains (λ e. get_or now (entry_number n c e) 0 ≡ node_number n c (slot k)) (slot k) e old_words ce)

    before : (k : ℕ) → k < m + 1 → k ≢ m → k < m
    before k lt ne = omega (arith, lt, ne)

    pub stops_more : AreStopsLinked n c stops (m + 1) first t old new
    stops_more = record {
      linked = linked_more s t (rows_of n c stops) m (4 * (n * n)) in_rows rows (subst (λ (r : Row). IsLinkedRing t r.head r.nodes) (sym (row_is m lm)) ring)
          (λ y a. others y (subst (λ (r : Row). Apart y (all_of r)) (row_is m lm) a)) so_far.linked;
      size = length_same ∙ so_far.size;
      others = λ y a. let p = so_far.others y a in let q = others y (a m lm) in record { next = q.next ∙ p.next; prev = q.prev ∙ p.prev };
      homed = λ k lt lk. ⊎_elim {C = All (λ e. get_or new (entry_number n c e) 0 ≡ node_number n c (slot k)) (slot k)}
          (λ q. subst (λ i. All (λ e. get_or new (entry_number n c e) 0 ≡ node_number n c (slot i)) (slot i)) (sym q) here)
          (λ ne. there k lk ne (so_far.homed k (before k lt ne) lk)) (same_or k m);
      home_size = homed.size ∙ so_far.home_size;
      home_others = λ y a. homed.others y (a m lm) ∙ so_far.home_others y a;
      home_within = subst (λ k. All (λ x. x < k) new) so_far.home_size within;
    }

  -- ---- as the loop has it

  module _ (m : ℕ) (lm : m < length stops) (v : ℕ) (es : List Entry) (v_is : v ≡ node_number n c es) (es_is : es ≡ slot m) where
    both : (P : ℕ → List Entry → Type 0) → P v es → P (node_number n c (slot m)) (slot m)
    both P p = subst (λ xs. P (node_number n c xs) xs) es_is (subst (λ w. P w es) v_is p)

    back : (P : ℕ → List Entry → Type 0) → P (node_number n c (slot m)) (slot m) → P v es
    back P p = subst (λ w. P w es) (sym v_is) (subst (λ xs. P (node_number n c xs) xs) (sym es_is) p)

    pub stop_distinct : Distinct (v ∷ map (entry_number n c) es)
    stop_distinct = back (λ w xs. Distinct (w ∷ map (entry_number n c) xs)) (row_distinct m lm)

    pub stop_alone : (first s : Links) (old now : List ℕ) → AreStopsLinked n c stops m first s old now → IsLinkedRing s v []
    stop_alone first s old now so_far = back (λ w xs. IsLinkedRing s w [])
        (subst (λ (r : Row). IsLinkedRing s r.head []) (row_is m lm) (so_far.linked.alone m (λ q. absurd (omega (arith, q))) (subst (λ k. m < k) (sym rows_length) lm)))

    pub stop_linked : (first s t : Links) (old now new : List ℕ) → AreStopsLinked n c stops m first s old now → IsLinkedRing t v (map (entry_number n c) es)
        → ((y : ℕ) → Apart y (v ∷ map (entry_number n c) es) → IsSameAt s t y) → length t.next ≡ length s.next
        → AreHomedAt now new v (map (entry_number n c) es) → All (λ x. x < length now) new → AreStopsLinked n c stops (m + 1) first t old new
    stop_linked first s t old now new so_far ring others size homed within = stops_more m lm first s t old now new so_far
        (both (λ w xs. IsLinkedRing t w (map (entry_number n c) xs)) ring) (both (λ w xs. (y : ℕ) → Apart y (w ∷ map (entry_number n c) xs) → IsSameAt s t y) others) size
        (both (λ w xs. AreHomedAt now new w (map (entry_number n c) xs)) homed) within

  -- ---- the circle

  -- nodes of another circle are apart from all rings of this one
  pub elsewhere : (y : ℕ) → (shape n).circle y ≢ c → (k : ℕ) → k < length stops → Apart y (all_of (row k))
  elsewhere y ne k lk = apart_from y (all_of (row k)) (λ z cz q. ne (ap (shape n).circle (sym q) ∙ circle_of_row k z lk cz))

  pub elsewhere_entries : (y : ℕ) → (shape n).circle y ≢ c → (k : ℕ) → k < length stops → Apart y (map (entry_number n c) (slot k))
  elsewhere_entries y ne k lk = (elsewhere y ne k lk).1

  pub elsewhere_ring : (y : ℕ) → (shape n).circle y ≢ c → Apart y (head_number n c ∷ map (node_number n c) stops)
  elsewhere_ring y ne = apart_from y (head_number n c ∷ map (node_number n c) stops) (λ z cz q. ne (ap (shape n).circle (sym q) ∙ circle_of_ring z cz))

  -- vertices are no entries
  pub above : (y : ℕ) → 2 * (n * n) ≤ y → (k : ℕ) → k < length stops → Apart y (map (entry_number n c) (slot k))
  above y le k lk = apart_from y (map (entry_number n c) (slot k)) (λ z cz q.
      let (e, ce, w) = Contains-from_map (entry_number n c) (slot k) z cz in
      let s = number_within k lk e ce in absurd (omega (arith, s, w, q, le)))

  -- before, each of its nodes stands alone
  pub alone_rows : (s : Links) → ((y : ℕ) → y < 4 * (n * n) → (shape n).circle y ≡ c → IsLinkedRing s y []) → AreLinked s (rows_of n c stops) 0
  alone_rows s alone = record {
    linked = λ k lt lk. absurd (omega (arith, lt));
    alone = λ k no lk.
        let lk' : k < length stops = subst (λ m. k < m) rows_length lk in
        subst (λ (r : Row). IsLinkedRing s r.head []) (sym (row_is k lk'))
        (alone (node_number n c (slot k)) (node_within k lk') (circle_of_node k lk'));
  }

  -- the arrays before and after
  module _ (a b : Arrays) (sizes : AreSized n a)
      (ring : IsLinkedRing b.circles (head_number n c) (map (node_number n c) stops))
      (ring_others : (y : ℕ) → Apart y (head_number n c ∷ map (node_number n c) stops) → IsSameAt a.circles b.circles y)
      (ring_length : length b.circles.next ≡ length a.circles.next)
      (linked : AreStopsLinked n c stops (length stops) a.vertices b.vertices a.home b.home) where
    pub holds_now : HoldsCircle n b c stops
    holds_now = record {
      circle = ring;
      vertices = λ k lk.
          let lk' : k < length (rows_of n c stops) = subst (λ m. k < m) (sym rows_length) lk in
          subst (λ (r : Row). IsLinkedRing b.vertices r.head r.nodes) (row_is k lk) (linked.linked.linked k lk lk');
      homes = λ k lk. linked.homed k lk lk;
    }

    pub others_now : (y : ℕ) → (shape n).circle y ≢ c → IsKeptAt a b y
    others_now y ne = record {
      circles = ring_others y (elsewhere_ring y ne);
      vertices = linked.others y (elsewhere y ne);
      home = linked.home_others y (elsewhere_entries y ne);
    }

    pub homes_now : (y : ℕ) → 2 * (n * n) ≤ y → get_or b.home y 0 ≡ get_or a.home y 0
    homes_now y le = linked.home_others y (above y le)

  -- another circle's writes leave it
  pub holds_still : (a b : Arrays) → ((y : ℕ) → (shape n).circle y ≡ c → IsKeptAt a b y) → HoldsCircle n a c stops → HoldsCircle n b c stops
  holds_still a b same h = record {
    circle = ring_same a.circles b.circles (head_number n c) (map (node_number n c) stops) (λ y cy. (same y (circle_of_ring y cy)).circles) h.circle;
    vertices = λ k lk. ring_same a.vertices b.vertices (node_number n c (slot k)) (map (entry_number n c) (slot k)) (λ y cy. (same y (circle_of_row k y lk cy)).vertices) (h.vertices k lk);
    homes = λ k lk. All-from_members (λ e. get_or b.home (entry_number n c e) 0 ≡ node_number n c (slot k)) (slot k) (λ e ce.
        (same (entry_number n c e) (entry_circle n c e lc (small k lk e ce))).home
        ∙ All-contains (λ e. get_or a.home (entry_number n c e) 0 ≡ node_number n c (slot k)) (slot k) e (h.homes k lk) ce);
  }
