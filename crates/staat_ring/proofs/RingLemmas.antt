-- Lists without a number, an entry or a plane; and the view: what it is after unlink and relink, and without a plane.
use Rattle.std.proofs.lemmas.Grind.{common_steps}
use Rattle.std.proofs.lemmas.Bool.Decides.{nat_tests, Decides-eqb}
use Rattle.std.proofs.Common.{◌≡◌, ◌≢◌, ℕ, zero, suc, refl, sym, ap, subst, ◌∙◌, List, [], ◌∷◌, ◌++◌, Bool, true, false, not, cond, eq-eqb, get_or, arith, Contains, ◌<◌, ◌≤◌, length, eqb, append-nil, append_assoc, map, ◌||◌, ◌&&◌}
use Rattle.std.specs.List.{filter, IsDistinct}
use Rattle.std.specs.Prelude.{◌==◌, Some, map, slice_get, if◌then◌else◌}
use Rattle.std.proofs.lemmas.List.Elements.{Contains-append_right, recursion_from_All, filter_agree}
use Rattle.staat_vec.proofs.Unique.{Contains-front, Contains-later}
use Rattle.staat_ring.proofs.WithoutLemmas.{filter_from}
use Rattle.staat_vec.proofs.Naturals.{eqb_false, zero_not_suc, eq_test_false}
use Rattle.staat_ring.specs.Links.{Links, IsLinkedRing, Apart, Distinct, unlink, is_bare, Chain, Arrays}
use Rattle.staat_ring.proofs.Chains.{first_of, last_of, ring-unlink, between, chain_stays, amid, InRange as NodeInRange, IsBetween}
use Rattle.staat_ring.specs.Stands.{is_empty, Tagged, IsRing, EachVertex, RingLists, Shape, StandFor}
use Rattle.std.proofs.lemmas.List.Folds.{Any-from_list_any}
use Rattle.std.proofs.lemmas.Map.Steps.{length-le_from_distinct_below}
use Rattle.staat_model.proofs.Members.{All-from_members}
use Rattle.staat_vec.proofs.ListLaws.{Contains-from_map, place_of, filter_inside, filter_twice, map_twice}
use Rattle.staat_ring.specs.RingViews.{nodes_from, ring_nodes, lists_of, undo_all, unlinked_planes, shape, is_out, numbers_below, ring_of, rings_of, still_linked}
use Rattle.staat_ring.specs.Numbered.{entry_numbered, plane_of}
use Rattle.staat_ring.specs.declared.entry.Entry.{Entry}
use Rattle.staat_ring.specs.Rings.{RingStop}
use Rattle.staat_ring.specs.Without.{has_some, other_than, stays, stop_without, ring_without, rings_without}
use Rattle.std.proofs.lemmas.List.FromFn.{get_or-range_with_len, length-range_with_len}

-- the list without x
abbrev pub without : ℕ → List ℕ → List ℕ
without x xs = filter (λ y. not (y == x)) xs

-- the lists without the entry e at the vertex v: the vertex leaves with its last entry
abbrev pub lists_without : ℕ → ℕ → RingLists → RingLists
lists_without v e l = record {
  vertices = λ c. if is_empty (without e (l.entries v)) then without v (l.vertices c) else l.vertices c;
  entries = λ u. without e (l.entries u);
}

-- the lists without these entries, in their order
abbrev pub lists_without_all : (ℕ → ℕ) → List ℕ → RingLists → RingLists
lists_without_all home [] l = l
lists_without_all home (e ∷ es) l = lists_without_all home es (lists_without (home e) e l)

-- the lists without a plane: its entries are out, and the vertices that have none left
abbrev pub lists_without_plane : (ℕ → ℕ) → ℕ → RingLists → RingLists
lists_without_plane plane_of p l = record {
  vertices = λ c. filter (λ v. not (is_empty (filter (λ e. not (plane_of e == p)) (l.entries v)))) (l.vertices c);
  entries = λ v. filter (λ e. not (plane_of e == p)) (l.entries v);
}

-- the lists agree where anything is asked of them
pub record AreSame (g : Shape) (l m : RingLists) : Type 0 where
  pub vertices : (c : ℕ) → c < g.count → l.vertices c ≡ m.vertices c
  pub entries : EachVertex g.count l (λ c v. l.entries v ≡ m.entries v)

pub apart_from : (x : ℕ) (ys : List ℕ) → ((y : ℕ) → Contains ys y → y ≢ x) → Apart x ys
apart_from x [] h = tt
apart_from x (y ∷ ys) h = (h y (zero, omega arith, refl), apart_from x ys (λ z c. h z (suc c.0, omega (arith, c.1), c.2)))

pub from_apart : (x : ℕ) (ys : List ℕ) (y : ℕ) → Apart x ys → Contains ys y → y ≢ x
from_apart x [] y a (k, lt, e) = absurd (omega arith)
from_apart x (z ∷ ys) y a (zero, lt, e) = λ q. a.0 (e ∙ q)
from_apart x (z ∷ ys) y a (suc k, lt, e) = from_apart x ys y a.1 (k, omega arith, e)

-- no two members are the same
pub distinct_by : {X : Type 0} (f : X → ℕ) (xs : List X) → ((k m : ℕ) (x y : X) → slice_get xs k ≡ Some x → slice_get xs m ≡ Some y → f x ≡ f y → k ≡ m) → Distinct (map f xs)
distinct_by f [] h = tt
distinct_by f (x ∷ xs) h = (
  apart_from (f x) (map f xs) (λ y c e.
      let (z, cz, ez) = Contains-from_map f xs y c in
      let (k, at) = place_of xs z cz in
      zero_not_suc k (h 0 (suc k) x z refl at (sym e ∙ sym ez))),
  distinct_by f xs (λ k m y z ky mz e. let q = h (suc k) (suc m) y z ky mz e in omega (arith, q)),
)

distinct_words : (xs : List ℕ) → Distinct xs → IsDistinct eqb xs
unfolding IsDistinct
distinct_words [] d = tt
distinct_words (x ∷ xs) d = (recursion_from_All (λ y. eqb x y ≡ false) xs (All-from_members (λ y. eqb x y ≡ false) xs (λ y c. eq_test_false x y (λ e. from_apart x xs y d.0 c (sym e)))), distinct_words xs d.1)

-- different numbers below n are at most n
pub few_below : (n : ℕ) (xs : List ℕ) → Distinct xs → ((x : ℕ) → Contains xs x → x < n) → length xs ≤ n
few_below n xs d h = length-le_from_distinct_below xs n (distinct_words xs d) (λ q e. let (k, x, lt, at, same) = Any-from_list_any (eqb q) xs e in subst (λ y. y < n) (sym ((Decides-eqb q x).0 same)) (h x (k, lt, at)))

pub without_same : (x : ℕ) (r : List ℕ) → without x (x ∷ r) ≡ without x r
without_same x r = ap (λ b. cond (not b) (x ∷ without x r) (without x r)) (eq-eqb x x refl)

pub without_other : (x y : ℕ) (r : List ℕ) → y ≢ x → without x (y ∷ r) ≡ y ∷ without x r
without_other x y r h = ap (λ b. cond (not b) (y ∷ without x r) (without x r)) (eqb_false y x h)

pub without_none : (x : ℕ) (xs : List ℕ) → Apart x xs → without x xs ≡ xs
without_none x [] h = refl
without_none x (y ∷ xs) h = without_other x y xs h.0 ∙ ap (λ zs. y ∷ zs) (without_none x xs h.1)

pub without_mid : (x : ℕ) (l r : List ℕ) → Distinct (l ++ x ∷ r) → without x (l ++ x ∷ r) ≡ l ++ r
without_mid x [] r d = without_same x r ∙ without_none x r d.0
without_mid x (y ∷ l) r d = without_other x y (l ++ x ∷ r) (λ e. from_apart y (l ++ x ∷ r) x d.0 (Contains-append_right l (x ∷ r) x (Contains-front x r)) (sym e)) ∙ ap (λ zs. y ∷ zs) (without_mid x l r d.1)

-- a list that holds x, split there
pub record SplitAt (x : ℕ) (xs : List ℕ) : Type 0 where
  pub left : List ℕ
  pub right : List ℕ
  pub is : xs ≡ left ++ x ∷ right

pub split : (xs : List ℕ) (x : ℕ) → Contains xs x → SplitAt x xs
split [] x (k, lt, e) = absurd (omega arith)
split (y ∷ xs) x (zero, lt, e) = record { left = []; right = xs; is = ap (λ z. z ∷ xs) e }
split (y ∷ xs) x (suc k, lt, e) =
    let s = split xs x (k, omega arith, e) in
    record { left = y ∷ s.left; right = s.right; is = ap (λ zs. y ∷ zs) s.is }

pub ring_left : (s : Links) (x h : ℕ) (xs : List ℕ) → NodeInRange s x → Distinct (h ∷ xs) → Contains xs x → IsLinkedRing s h xs → IsLinkedRing (unlink x s) h (without x xs)
ring_left s x h xs g d c r =
    let p = split xs x c in
    let d' : Distinct (h ∷ p.left ++ x ∷ p.right) = subst (λ ys. Distinct (h ∷ ys)) p.is d in
    subst (λ ys. IsLinkedRing (unlink x s) h ys) (sym (ap (without x) p.is ∙ without_mid x p.left p.right d'.1))
    (ring-unlink s x h p.left p.right g d' (subst (λ ys. IsLinkedRing s h ys) p.is r))

pub node_between : (s : Links) (x h : ℕ) (xs : List ℕ) → Distinct (h ∷ xs) → Contains xs x → IsLinkedRing s h xs → IsBetween s x
node_between s x h xs d c r =
    let p = split xs x c in
    let d' : Distinct (h ∷ p.left ++ x ∷ p.right) = subst (λ ys. Distinct (h ∷ ys)) p.is d in
    between s x h p.left p.right h d' d'.0 (subst (λ ys. IsLinkedRing s h ys) p.is r)

apart_filter : (test : ℕ → Bool) (y : ℕ) (xs : List ℕ) → Apart y xs → Apart y (filter test xs)
apart_filter test y xs h = apart_from y (filter test xs) (λ z c. from_apart y xs z h (filter_from test xs z c).0)

pub distinct_filter : (test : ℕ → Bool) (xs : List ℕ) → Distinct xs → Distinct (filter test xs)
distinct_filter test [] h = tt
distinct_filter test (z ∷ xs) h = step (test z) (distinct_filter test xs h.1)
  where
    step : (b : Bool) → Distinct (filter test xs) → Distinct (cond b (z ∷ filter test xs) (filter test xs))
    step true g = (apart_filter test z xs h.0, g)
    step false g = g

pub tagged_in : (tag : ℕ → ℕ) (t : ℕ) (xs : List ℕ) (x : ℕ) → Tagged tag t xs → Contains xs x → tag x ≡ t
tagged_in tag t [] x h (k, lt, e) = absurd (omega arith)
tagged_in tag t (y ∷ xs) x h (zero, lt, e) = ap tag (sym e) ∙ h.0
tagged_in tag t (y ∷ xs) x h (suc k, lt, e) = tagged_in tag t xs x h.1 (k, omega arith, e)

pub tagged_from : (tag : ℕ → ℕ) (t : ℕ) (xs : List ℕ) → ((x : ℕ) → Contains xs x → tag x ≡ t) → Tagged tag t xs
tagged_from tag t [] h = tt
tagged_from tag t (x ∷ xs) h = (h x (Contains-front x xs), tagged_from tag t xs (λ y c. h y (Contains-later x xs y c)))

-- a node with another tag is apart
pub tagged_apart : (tag : ℕ → ℕ) (t x : ℕ) (xs : List ℕ) → Tagged tag t xs → tag x ≢ t → Apart x xs
tagged_apart tag t x xs h n = apart_from x xs (λ y c e. n (ap tag (sym e) ∙ tagged_in tag t xs y h c))

tagged_last : (tag : ℕ → ℕ) (t a : ℕ) (l r : List ℕ) → Tagged tag t (a ∷ l ++ r) → tag (last_of a l) ≡ t
tagged_last tag t a [] r h = h.0
tagged_last tag t a (x ∷ l) r h = tagged_last tag t x l r h.1

tagged_right : (tag : ℕ → ℕ) (t : ℕ) (l r : List ℕ) → Tagged tag t (l ++ r) → Tagged tag t r
tagged_right tag t [] r h = h
tagged_right tag t (x ∷ l) r h = tagged_right tag t l r h.1

tagged_first : (tag : ℕ → ℕ) (t : ℕ) (r : List ℕ) (b : ℕ) → Tagged tag t r → tag b ≡ t → tag (first_of r b) ≡ t
tagged_first tag t [] b h e = e
tagged_first tag t (x ∷ r) b h e = h.0

-- the neighbours of a node have its tag
pub neighbour_tags : (s : Links) (tag : ℕ → ℕ) (x h : ℕ) (xs : List ℕ) → Contains xs x → IsRing s tag h xs → (tag (get_or s.prev x 0) ≡ tag h) × (tag (get_or s.next x 0) ≡ tag h)
neighbour_tags s tag x h xs c r =
    let p = split xs x c in
    let m = amid s x h p.left p.right h (subst (λ ys. IsLinkedRing s h ys) p.is r.ring) in
    let t : Tagged tag (tag h) (h ∷ p.left ++ x ∷ p.right) = subst (λ ys. Tagged tag (tag h) (h ∷ ys)) p.is r.tagged in
    (ap tag m.prev ∙ tagged_last tag (tag h) h p.left (x ∷ p.right) t, ap tag m.next ∙ tagged_first tag (tag h) p.right h (tagged_right tag (tag h) p.left (x ∷ p.right) t.1).1 refl)

-- a ring with another tag stays
pub ring_stays : (s : Links) (tag : ℕ → ℕ) (x h : ℕ) (xs : List ℕ) → tag (get_or s.prev x 0) ≢ tag h → tag (get_or s.next x 0) ≢ tag h → IsRing s tag h xs → IsRing (unlink x s) tag h xs
ring_stays s tag x h xs p n r = grind (arith, common_steps, nat_tests, chain_stays, tagged_apart)

-- the ring of the node goes over the list without it
pub ring_shrinks : (s : Links) (tag : ℕ → ℕ) (x h : ℕ) (xs : List ℕ) → NodeInRange s x → Contains xs x → IsRing s tag h xs → IsRing (unlink x s) tag h (without x xs)
ring_shrinks s tag x h xs g c r = record {
  ring = ring_left s x h xs g r.distinct c r.ring;
  distinct = (apart_filter (λ y. not (y == x)) h xs r.distinct.0, distinct_filter (λ y. not (y == x)) xs r.distinct.1);
  tagged = (refl, tagged_from tag (tag h) (without x xs) (λ y c. tagged_in tag (tag h) xs y r.tagged.1 (filter_from (λ y. not (y == x)) xs y c).0));
}

-- a vertex is bare where its list is empty
pub bare_is : (s : Links) (v : ℕ) (ys : List ℕ) → Apart v ys → IsLinkedRing s v ys → is_bare s v ≡ is_empty ys
bare_is s v [] a r = eq-eqb (get_or s.next v 0) v r.0
bare_is s v (y ∷ ys) a r = eqb_false (get_or s.next v 0) v (λ e. a.0 (sym r.0 ∙ e))

-- ---- the view: what it is after unlink and relink, and without a plane

pub undo-push : {A : Type 0} (undo : ℕ → A → A) (ps : List ℕ) (q : ℕ) (a : A) → undo_all undo (ps ++ q ∷ []) a ≡ undo_all undo ps (undo q a)
undo-push undo [] q a = refl
undo-push undo (p ∷ ps) q a = ap (undo p) (undo-push undo ps q a)

-- the plane that was unlinked last stands at the end, with what undoing it gives
pub kept-push : {A R : Type 0} (undo : ℕ → A → A) (rings : List ℕ → A → R) (done ps : List ℕ) (q : ℕ) (a : A)
    → unlinked_planes undo rings done (ps ++ q ∷ []) a ≡ unlinked_planes undo rings done ps (undo q a) ++ (record { plane = q; before = rings (done ++ ps) (undo q a) }) ∷ []
kept-push undo rings done [] q a = ap (λ d. (record { plane = q; before = rings d (undo q a) }) ∷ []) (sym (append-nil done))
kept-push undo rings done (p ∷ ps) q a =
    (λ i. (record { plane = p; before = rings done (undo p (undo-push undo ps q a i)) }) ∷ kept-push undo rings (done ++ p ∷ []) ps q a i)
    ∙ ap (λ d. (record { plane = p; before = rings done (undo p (undo_all undo ps (undo q a))) }) ∷ (unlinked_planes undo rings (done ++ p ∷ []) ps (undo q a) ++ (record { plane = q; before = rings d (undo q a) }) ∷ []))
    (append_assoc done (p ∷ []) ps)

-- ---- the nodes of a ring

pub nodes_from_is : (n : ℕ) (s : Links) (h a : ℕ) (xs : List ℕ) → length xs < n → Apart h xs → Chain s a xs h → nodes_from n s.next h (get_or s.next a 0) ≡ xs
nodes_from_is zero s h a xs lt d c = absurd (omega arith)
nodes_from_is (suc n) s h a [] lt d c = ap (λ b. if b then [] else get_or s.next a 0 ∷ nodes_from n s.next h (get_or s.next (get_or s.next a 0) 0)) (eq-eqb (get_or s.next a 0) h c.0)
nodes_from_is (suc n) s h a (x ∷ xs) lt d c =
    ap (λ y. if eqb y h then [] else y ∷ nodes_from n s.next h (get_or s.next y 0)) c.0
    ∙ (ap (λ b. if b then [] else x ∷ nodes_from n s.next h (get_or s.next x 0)) (eqb_false x h d.0)
    ∙ ap (λ l. x ∷ l) (nodes_from_is n s h x xs (omega arith) d.1 c.1.1))

-- what the arrays give is what they stand for
pub nodes_of_is : (s : Links) (tag : ℕ → ℕ) (h : ℕ) (xs : List ℕ) → length xs < length s.next → IsRing s tag h xs → ring_nodes s h ≡ xs
nodes_of_is s tag h xs lt r = nodes_from_is (length s.next) s h h xs lt r.distinct.0 r.ring

pub record AreShort (g : Shape) (l : RingLists) (a : Arrays) : Type 0 where
  pub vertices : (c : ℕ) → c < g.count → length (l.vertices c) < length a.circles.next
  pub entries : (c v : ℕ) → c < g.count → Contains (l.vertices c) v → length (l.entries v) < length a.vertices.next

pub lists_of_is : (g : Shape) (l : RingLists) (a : Arrays) → AreShort g l a → StandFor g l a → AreSame g l (lists_of g a)
lists_of_is g l a short st = record {
  vertices = λ c hc. sym (nodes_of_is a.circles g.circle (g.head c) (l.vertices c) (short.vertices c hc) (st.circles c hc));
  entries = λ c v hc cv. sym (nodes_of_is a.vertices (λ e. get_or a.home e 0) v (l.entries v) (short.entries c v hc cv) (st.vertices c v hc cv));
}

-- lists that agree stand for the same arrays
pub stands_same : (g : Shape) (l m : RingLists) (a : Arrays) → AreSame g l m → StandFor g l a → StandFor g m a
stands_same g l m a s st =
    let back : (c v : ℕ) → c < g.count → Contains (m.vertices c) v → Contains (l.vertices c) v = λ c v hc cv. subst (λ xs. Contains xs v) (sym (s.vertices c hc)) cv in
    record {
      circles_in_range = st.circles_in_range;
      vertices_in_range = st.vertices_in_range;
      heads = st.heads;
      circles = λ c hc. subst (λ xs. IsRing a.circles g.circle (g.head c) xs) (s.vertices c hc) (st.circles c hc);
      owns = λ c v hc cv. st.owns c v hc (back c v hc cv);
      vertices = λ c v hc cv. subst (λ xs. IsRing a.vertices (λ e. get_or a.home e 0) v xs) (s.entries c v hc (back c v hc cv)) (st.vertices c v hc (back c v hc cv));
      within = λ c v hc cv. st.within c v hc (back c v hc cv);
      entries_within = λ c v e hc cv ce. st.entries_within c v e hc (back c v hc cv) (subst (λ xs. Contains xs e) (sym (s.entries c v hc (back c v hc cv))) ce);
    }

-- ---- the view without a plane

pub map_filter : {X Y : Type 0} (f : X → Y) (test : Y → Bool) (xs : List X) → filter test (map f xs) ≡ map f (filter (λ x. test (f x)) xs)
map_filter f test [] = refl
map_filter f test (x ∷ xs) = step (test (f x)) (map_filter f test xs)
  where
    step : (b : Bool) → filter test (map f xs) ≡ map f (filter (λ x. test (f x)) xs)
        → cond b (f x ∷ filter test (map f xs)) (filter test (map f xs)) ≡ map f (cond b (x ∷ filter (λ x. test (f x)) xs) (filter (λ x. test (f x)) xs))
    step true ih = ap (λ l. f x ∷ l) ih
    step false ih = ih

pub listed-push : (out : List ℕ) (p c : ℕ) → not (is_out (out ++ p ∷ []) c) ≡ (not (is_out out c) && not (p == c))
listed-push [] p c = flat (p == c)
  where
    flat : (b : Bool) → not (b || false) ≡ not b
    flat true = refl
    flat false = refl
listed-push (q ∷ out) p c = step (q == c) (is_out (out ++ p ∷ []) c) (is_out out c) (p == c) (listed-push out p c)
  where
    step : (a b d e : Bool) → not b ≡ (not d && not e) → not (a || b) ≡ (not (a || d) && not e)
    step true b d e h = refl
    step false b d e h = h

pub eqb_turned : (x y : ℕ) → eqb x y ≡ eqb y x
eqb_turned x y = grind (arith, nat_tests)

some_map : (f : ℕ → Entry) (xs : List ℕ) → has_some (map f xs) ≡ not (is_empty xs)
some_map f [] = refl
some_map f (x ∷ xs) = refl

pub map_same : {X Y : Type 0} (f g : X → Y) (xs : List X) → ((x : X) → Contains xs x → f x ≡ g x) → map f xs ≡ map g xs
map_same f g [] h = refl
map_same f g (x ∷ xs) h = λ i. h x (zero, omega arith, refl) i ∷ map_same f g xs (λ y c. h y (suc c.0, omega (arith, c.1), c.2)) i

-- one ring without the plane
module _ (n p : ℕ) (l : RingLists) (c : ℕ) where
  abbrev left : ℕ → List ℕ
  left v = filter (λ e. not (plane_of n e == p)) (l.entries v)

  abbrev stop : ℕ → RingStop
  stop v = record { node = v; entries = map (entry_numbered n) (l.entries v) }

  abbrev stop_left : ℕ → RingStop
  stop_left v = record { node = v; entries = map (entry_numbered n) (left v) }

  abbrev kept : List ℕ
  kept = filter (λ v. not (is_empty (left v))) (l.vertices c)

  entries : (v : ℕ) → filter (other_than p) (map (entry_numbered n) (l.entries v)) ≡ map (entry_numbered n) (left v)
  entries v = map_filter (entry_numbered n) (other_than p) (l.entries v)

  stays_is : (v : ℕ) → stays p (stop v) ≡ not (is_empty (left v))
  stays_is v = ap has_some (entries v) ∙ some_map (entry_numbered n) (left v)

  stop_is : (v : ℕ) → stop_without p (stop v) ≡ stop_left v
  stop_is v = λ i. record { node = v; entries = entries v i }

  stops : map (stop_without p) (filter (stays p) (map stop (l.vertices c))) ≡ map stop_left kept
  stops =
      ap (map (stop_without p)) (map_filter stop (stays p) (l.vertices c))
      ∙ (map_twice (stop_without p) stop (filter (λ v. stays p (stop v)) (l.vertices c))
      ∙ (ap (map (λ v. stop_without p (stop v))) (filter_agree (λ v. stays p (stop v)) (λ v. not (is_empty (left v))) stays_is (l.vertices c))
      ∙ map_same (λ v. stop_without p (stop v)) stop_left kept (λ v _. stop_is v)))

  ring-without : ring_of n (lists_without_plane (plane_of n) p l) c ≡ ring_without p (ring_of n l c)
  ring-without = λ i. record { plane = c; stops = sym stops i }

-- the planes that are linked still
pub still_without : (n p : ℕ) (out : List ℕ) → still_linked n (out ++ p ∷ []) ≡ filter (λ c. not (c == p)) (still_linked n out)
still_without n p out =
    filter_agree (λ c. not (is_out (out ++ p ∷ []) c)) (λ c. not (is_out out c) && not (c == p)) (λ c. listed-push out p c ∙ ap (λ b. not (is_out out c) && not b) (eqb_turned p c)) (numbers_below n)
    ∙ sym (filter_twice (λ c. not (is_out out c)) (λ c. not (c == p)) (numbers_below n))

pub rings-without : (n p : ℕ) (out : List ℕ) (l : RingLists) → rings_of n (out ++ p ∷ []) (lists_without_plane (plane_of n) p l) ≡ rings_without p (rings_of n out l)
rings-without n p out l =
    ap (λ cs. map (ring_of n (lists_without_plane (plane_of n) p l)) cs) (still_without n p out)
    ∙ (map_same (ring_of n (lists_without_plane (plane_of n) p l)) (λ c. ring_without p (ring_of n l c)) (filter (λ c. not (c == p)) (still_linked n out)) (λ c _. ring-without n p l c)
    ∙ (sym (map_twice (ring_without p) (ring_of n l) (filter (λ c. not (c == p)) (still_linked n out)))
    ∙ ap (map (ring_without p)) (sym (map_filter (ring_of n l) (λ r. not (r.plane == p)) (still_linked n out)))))

-- lists that agree give the same rings
pub below_small : (n c : ℕ) → Contains (numbers_below n) c → c < n
below_small n c (k, lt, e) = let l = length-range_with_len 0 n in let g = get_or-range_with_len 0 n k c (omega (arith, lt, l)) in omega (arith, lt, l, g, e)

pub rings-same : (n : ℕ) (out : List ℕ) (l m : RingLists) → AreSame (shape n) l m → rings_of n out l ≡ rings_of n out m
rings-same n out l m s = map_same (ring_of n l) (ring_of n m) (filter (λ c. not (is_out out c)) (numbers_below n))
    (λ c cc'. let hc = below_small n c (filter_inside (λ c. not (is_out out c)) (numbers_below n) c cc') in
    (λ i. record { plane = c; stops = stops c hc i }))
  where
    stops : (c : ℕ) → c < n → map {B = RingStop} (λ v. record { node = v; entries = map (entry_numbered n) (l.entries v) }) (l.vertices c) ≡ map {B = RingStop} (λ v. record { node = v; entries = map (entry_numbered n) (m.entries v) }) (m.vertices c)
    stops c hc =
        map_same (λ v. record { node = v; entries = map (entry_numbered n) (l.entries v) }) (λ v. record { node = v; entries = map (entry_numbered n) (m.entries v) }) (l.vertices c)
        (λ v cv. ap (λ es. record { node = v; entries = map (entry_numbered n) es }) (s.entries c v hc cv))
        ∙ ap (λ vs. map {B = RingStop} (λ v. record { node = v; entries = map (entry_numbered n) (m.entries v) }) vs) (s.vertices c hc)
