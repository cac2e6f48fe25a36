-- Taking an entry out of the arrays takes it out of the lists that they stand for; taking a plane's out filters them.
use Rattle.std.proofs.Common.{rules, ◌≡◌, ◌≢◌, ℕ, ◌<◌, refl, sym, ap, subst, ◌∙◌, List, [], ◌∷◌, length, Bool, true, false, not, if◌then◌else◌, inl, inr, get_or, set, arith, Contains, zero, suc, ◌&&◌, cond, eq-eqb}
use Rattle.std.proofs.lemmas.List.{get_or-set_other}
use Rattle.std.proofs.lemmas.Grind.{get_or-set_at}
use Rattle.std.proofs.Math.ListN.{length-set}
use Rattle.std.specs.Prelude.{◌==◌}
use Rattle.staat_ring.proofs.WithoutLemmas.{filter_from, filter_in}
use Rattle.staat_ring.specs.Links.{Links, Apart, Distinct, unlink, Arrays, is_bare, take, take_all, InRange}
use Rattle.staat_ring.proofs.Chains.{CanTakeAll, CanTake}
use Rattle.staat_ring.specs.Stands.{is_empty, IsRing, Shape, RingLists, home_of, StandFor, IsPresent, AllPresent}
use Rattle.staat_ring.proofs.RingLemmas.{lists_without_all, lists_without, without, without_none, node_between, tagged_apart, tagged_in, neighbour_tags, ring_stays, ring_shrinks, bare_is, lists_without_plane, AreSame}
use Rattle.staat_vec.proofs.Naturals.{eq_test_false, same_or, apart_from_test, eqb_false}
use Rattle.std.specs.List.{filter}
use Rattle.std.proofs.lemmas.List.Elements.{filter_agree}
use Rattle.staat_vec.proofs.ListLaws.{filter_inside, filter_twice, contains_or}

pub contains_before : (x y : ℕ) (xs : List ℕ) → Contains (without x xs) y → Contains xs y
contains_before x y xs h = (filter_from (λ z. not (z == x)) xs y h).0

contains_after : (x y : ℕ) (xs : List ℕ) → y ≢ x → Contains xs y → Contains (without x xs) y
contains_after x y xs n h = filter_in (λ z. not (z == x)) xs y h (ap not (eq_test_false y x n))

-- a word of an array after a write
pub word_below : (l : List ℕ) (i u x n : ℕ) → u < n → get_or l x 0 < n → i < length l → get_or (set l i u) x 0 < n
word_below l i u x n hu hx hi = search (rules, get_or-set_other, get_or-set_at, same_or)

pub range_unlink : (s : Links) (x : ℕ) → x < length s.next → InRange s → InRange (unlink x s)
range_unlink s x lt h = search (rules, length-set, word_below)

node_in_range : (s : Links) (x : ℕ) → x < length s.next → InRange s → (get_or s.prev x 0 < length s.next) × (get_or s.next x 0 < length s.prev)
node_in_range s x lt h = (h.prev_within x lt, let n = h.next_within x lt in let e = h.same in omega (arith, n, e))

range_if : (b : Bool) (s : Links) (x : ℕ) → x < length s.next → InRange s → InRange (if b then unlink x s else s)
range_if true s x lt h = range_unlink s x lt h
range_if false s x lt h = h

contains_if : (b : Bool) (x y : ℕ) (xs : List ℕ) → Contains (if b then without x xs else xs) y → Contains xs y
contains_if true x y xs h = contains_before x y xs h
contains_if false x y xs h = h

pub length_if : (b : Bool) (s : Links) (x : ℕ) → length (if b then unlink x s else s).next ≡ length s.next
length_if true s x = length-set s.next (get_or s.prev x 0) (get_or s.next x 0)
length_if false s x = refl

-- one ring of a family where the node x of the ring h' leaves
pub ring_after : (s : Links) (tag : ℕ → ℕ) (x h' : ℕ) (xs' : List ℕ) (h : ℕ) (xs : List ℕ) → x < length s.next → InRange s → Contains xs' x → IsRing s tag h' xs'
    → (tag h ≡ tag h' → (h ≡ h') × (xs ≡ xs')) → IsRing s tag h xs → IsRing (unlink x s) tag h (without x xs)
ring_after s tag x h' xs' h xs lt g c r' same r = elim (same_or (tag h) (tag h')) [
  | inl e ↦ ring_shrinks s tag x h xs (node_in_range s x lt g) (subst (λ l. Contains l x) (sym (same e).1) c) r
  | inr d ↦
      let (p, n) = neighbour_tags s tag x h' xs' c r' in
      subst (λ l. IsRing (unlink x s) tag h l)
      (sym (without_none x xs (tagged_apart tag (tag h) x xs r.tagged.1 (λ e. d (sym e ∙ tag_of)))))
      (ring_stays s tag x h xs (λ e. d (sym e ∙ p)) (λ e. d (sym e ∙ n)) r)
]
  where
    tag_of : tag x ≡ tag h'
    tag_of = tagged_in tag (tag h') xs' x r'.tagged.1 c

-- the ring stands as it did where the vertex stays
ring_if : (b : Bool) (s : Links) (tag : ℕ → ℕ) (x h' : ℕ) (xs' : List ℕ) (h : ℕ) (xs : List ℕ) → x < length s.next → InRange s → Contains xs' x → IsRing s tag h' xs'
    → (tag h ≡ tag h' → (h ≡ h') × (xs ≡ xs')) → IsRing s tag h xs → IsRing (if b then unlink x s else s) tag h (if b then without x xs else xs)
ring_if true s tag x h' xs' h xs lt g c r' same r = ring_after s tag x h' xs' h xs lt g c r' same r
ring_if false s tag x h' xs' h xs lt g c r' same r = r

-- after the entry is out its vertex is bare exactly where its list is empty
bare_after : (g : Shape) (l : RingLists) (a : Arrays) (e : ℕ) → StandFor g l a → IsPresent g l a e
    → IsRing (unlink e a.vertices) (home_of a) (home_of a e) (without e (l.entries (home_of a e)))
bare_after g l a e st pr =
    ring_shrinks a.vertices (home_of a) e (home_of a e) (l.entries (home_of a e))
    (node_in_range a.vertices e (st.entries_within (g.circle (home_of a e)) (home_of a e) e pr.circle pr.vertex pr.entry) st.vertices_in_range)
    pr.entry (st.vertices (g.circle (home_of a e)) (home_of a e) pr.circle pr.vertex)

same_circle : (g : Shape) (l : RingLists) (a : Arrays) (c d : ℕ) → StandFor g l a → c < g.count → d < g.count → g.circle (g.head c) ≡ g.circle (g.head d)
    → (g.head c ≡ g.head d) × (l.vertices c ≡ l.vertices d)
same_circle g l a c d st hc hd e = search (rules)

same_vertex : (g : Shape) (l : RingLists) (a : Arrays) (c d v w : ℕ) → StandFor g l a → c < g.count → d < g.count → Contains (l.vertices c) v → Contains (l.vertices d) w
    → home_of a v ≡ home_of a w → (v ≡ w) × (l.entries v ≡ l.entries w)
same_vertex g l a c d v w st hc hd cv cw e =
    let q : v ≡ w = sym (st.owns c v hc cv) ∙ (e ∙ st.owns d w hd cw) in
    (q, ap l.entries q)

pub stands-take : (g : Shape) (l : RingLists) (a : Arrays) (e : ℕ) → StandFor g l a → IsPresent g l a e → StandFor g (lists_without (home_of a e) e l) (take e a)
stands-take g l a e st pr =
    let v : ℕ = home_of a e in
    let d : ℕ = g.circle v in
    let en : e < length a.vertices.next = st.entries_within d v e pr.circle pr.vertex pr.entry in
    let vn : v < length a.circles.next = st.within d v pr.circle pr.vertex in
    let es' : List ℕ = without e (l.entries v) in
    let after = bare_after g l a e st pr in
    let bare : is_bare (unlink e a.vertices) v ≡ is_empty es' = bare_is (unlink e a.vertices) v es' after.distinct.0 after.ring in
    let b : Bool = is_bare (unlink e a.vertices) v in
    record {
      circles_in_range = range_if b a.circles v vn st.circles_in_range;
      vertices_in_range = range_unlink a.vertices e en st.vertices_in_range;
      heads = st.heads;
      circles = λ c hc. subst (λ t. IsRing (if b then unlink v a.circles else a.circles) g.circle (g.head c) (if t then without v (l.vertices c) else l.vertices c)) bare
          (ring_if b a.circles g.circle v (g.head d) (l.vertices d) (g.head c) (l.vertices c) vn st.circles_in_range pr.vertex (st.circles d pr.circle)
          (same_circle g l a c d st hc pr.circle) (st.circles c hc));
      owns = λ c w hc cw. st.owns c w hc (contains_if (is_empty es') v w (l.vertices c) cw);
      vertices = λ c w hc cw. let cw' = contains_if (is_empty es') v w (l.vertices c) cw in
          ring_after a.vertices (home_of a) e v (l.entries v) w (l.entries w) en st.vertices_in_range pr.entry (st.vertices d v pr.circle pr.vertex)
          (same_vertex g l a c d w v st hc pr.circle cw' pr.vertex) (st.vertices c w hc cw');
      within = λ c w hc cw. subst (λ n. w < n) (sym (length_if b a.circles v)) (st.within c w hc (contains_if (is_empty es') v w (l.vertices c) cw));
      entries_within = λ c w f hc cw cf. subst (λ n. f < n) (sym (length-set a.vertices.next (get_or a.vertices.prev e 0) (get_or a.vertices.next e 0)))
          (st.entries_within c w f hc (contains_if (is_empty es') v w (l.vertices c) cw) (contains_before e f (l.entries w) cf));
    }

pub can-take : (g : Shape) (l : RingLists) (a : Arrays) (e : ℕ) → StandFor g l a → IsPresent g l a e → CanTake e a
can-take g l a e st pr =
    let v : ℕ = home_of a e in
    let d : ℕ = g.circle v in
    let rv = st.vertices d v pr.circle pr.vertex in
    let rc = st.circles d pr.circle in
    record {
      entry = node_between a.vertices e v (l.entries v) rv.distinct pr.entry rv.ring;
      vertex = λ _. node_between a.circles v (g.head d) (l.vertices d) rc.distinct pr.vertex rc.ring;
    }

-- another entry is still there
pub present-after : (g : Shape) (l : RingLists) (a : Arrays) (e f : ℕ) → f ≢ e → IsPresent g l a f → IsPresent g (lists_without (home_of a e) e l) (take e a) f
present-after g l a e f n pf = record {
  circle = pf.circle;
  vertex = keeps (is_empty (without e (l.entries (home_of a e)))) refl;
  entry = contains_after e f (l.entries (home_of a f)) n pf.entry;
}
  where
    none : (xs : List ℕ) → is_empty xs ≡ true → Contains xs f → ⊥
    none [] h (k, lt, q) = omega arith
    none (y ∷ xs) h c = cc

    keeps : (b : Bool) → is_empty (without e (l.entries (home_of a e))) ≡ b
        → Contains (if b then without (home_of a e) (l.vertices (g.circle (home_of a f))) else l.vertices (g.circle (home_of a f))) (home_of a f)
    keeps false h = pf.vertex
    keeps true h = contains_after (home_of a e) (home_of a f) (l.vertices (g.circle (home_of a f)))
        (λ q. none (without e (l.entries (home_of a e))) h (contains_after e f (l.entries (home_of a e)) n (subst (λ w. Contains (l.entries w) f) q pf.entry))) pf.vertex

pub all-after : (g : Shape) (l : RingLists) (a : Arrays) (e : ℕ) (es : List ℕ) → Apart e es → AllPresent g l a es → AllPresent g (lists_without (home_of a e) e l) (take e a) es
all-after g l a e [] ap h = tt
all-after g l a e (f ∷ es) ap h = (present-after g l a e f ap.0 h.0, all-after g l a e es ap.1 h.1)

pub stands-take_all : (g : Shape) (es : List ℕ) (l : RingLists) (a : Arrays) → StandFor g l a → Distinct es → AllPresent g l a es → CanTakeAll es a × StandFor g (lists_without_all (home_of a) es l) (take_all es a)
stands-take_all g [] l a st d h = (tt, st)
stands-take_all g (e ∷ es) l a st d h =
    let next = stands-take_all g es (lists_without (home_of a e) e l) (take e a) (stands-take g l a e st h.0) d.1 (all-after g l a e es d.0 h.1) in
    ((can-take g l a e st h.0, next.0), next.1)

-- ---- taking a plane's entries out one after another filters the lists

abbrev keeps : List ℕ → ℕ → Bool
keeps [] y = true
keeps (e ∷ es) y = not (y == e) && keeps es y

filter_same : (p q : ℕ → Bool) (xs : List ℕ) → ((x : ℕ) → Contains xs x → p x ≡ q x) → filter p xs ≡ filter q xs
filter_same p q [] h = refl
filter_same p q (x ∷ xs) h =
    (λ i. cond (h x (zero, omega arith, refl) i) (x ∷ filter_same p q xs (λ y c. h y (suc c.0, omega (arith, c.1), c.2)) i) (filter_same p q xs (λ y c. h y (suc c.0, omega (arith, c.1), c.2)) i))

-- where all pass, all stay
pub filter_whole : (p : ℕ → Bool) (xs : List ℕ) → ((x : ℕ) → Contains xs x → p x ≡ true) → filter p xs ≡ xs
filter_whole p [] h = refl
filter_whole p (x ∷ xs) h = (λ i. cond (h x (zero, omega arith, refl) i) (x ∷ filter p xs) (filter p xs)) ∙ ap (λ r. x ∷ r) (filter_whole p xs (λ y c. h y (suc c.0, omega (arith, c.1), c.2)))

entries_are : (home : ℕ → ℕ) (es : List ℕ) (l : RingLists) (v : ℕ) → (lists_without_all home es l).entries v ≡ filter (keeps es) (l.entries v)
entries_are home [] l v = sym (filter_whole (keeps []) (l.entries v) (λ x c. refl))
entries_are home (e ∷ es) l v = entries_are home es (lists_without (home e) e l) v ∙ filter_twice (λ y. not (y == e)) (keeps es) (l.entries v)

-- what is kept: what is not listed
keeps_not : (es : List ℕ) (y : ℕ) → (Contains es y → ⊥) → keeps es y ≡ true
keeps_not [] y h = refl
keeps_not (e ∷ es) y h =
    (λ i. not (unlike i) && keeps_not es y (λ c. h (suc c.0, omega (arith, c.1), c.2)) i)
  where
    unlike : (y == e) ≡ false
    unlike = elim (same_or y e) [ inl q ↦ absurd (h (zero, omega arith, sym q)) | inr n ↦ eqb_false y e n ]

keeps_listed : (es : List ℕ) (y : ℕ) → Contains es y → keeps es y ≡ false
keeps_listed [] y (k, lt, q) = absurd (omega arith)
keeps_listed (e ∷ es) y (zero, lt, q) = ap (λ b. not b && keeps es y) (eq-eqb y e (sym q))
keeps_listed (e ∷ es) y (suc k, lt, q) = last (not (y == e)) (keeps es y) (keeps_listed es y (k, omega arith, q))
  where
    last : (a b : Bool) → b ≡ false → (a && b) ≡ false
    last true b h = h
    last false b h = refl

-- a node that fails the test may be left out first
filter_without : (test : ℕ → Bool) (x : ℕ) (xs : List ℕ) → test x ≡ false → filter test (without x xs) ≡ filter test xs
filter_without test x [] h = refl
filter_without test x (y ∷ xs) h = elim (same_or y x) [
  | inl q ↦ ap (λ b. filter test (cond (not b) (y ∷ without x xs) (without x xs))) (eq-eqb y x q) ∙ (filter_without test x xs h ∙ sym (ap (λ b. cond b (y ∷ filter test xs) (filter test xs)) (ap test q ∙ h)))
  | inr n ↦ ap (λ b. filter test (cond (not b) (y ∷ without x xs) (without x xs))) (eqb_false y x n) ∙ ap (λ r. cond (test y) (y ∷ r) r) (filter_without test x xs h)
]

empty_is : (xs : List ℕ) → is_empty xs ≡ true → xs ≡ []
empty_is [] h = refl
empty_is (x ∷ xs) h = cc

-- every vertex on a circle has an entry
abbrev pub AreFull : Shape → RingLists → Type 0
AreFull g l = (c v : ℕ) → c < g.count → Contains (l.vertices c) v → is_empty (l.entries v) ≡ false

not_in_without : (x : ℕ) (xs : List ℕ) → Contains (without x xs) x → ⊥
not_in_without x xs h = apart_from_test x x (filter_from (λ y. not (y == x)) xs x h).1 refl

full-after : (g : Shape) (l : RingLists) (a : Arrays) (e : ℕ) → StandFor g l a → IsPresent g l a e → AreFull g l → AreFull g (lists_without (home_of a e) e l)
full-after g l a e st pr full c w hc cw = go (is_empty (without e (l.entries (home_of a e)))) refl cw
  where
    kept : w ≢ home_of a e → Contains (l.vertices c) w → is_empty (without e (l.entries w)) ≡ false
    kept n cv =
        let r = st.vertices c w hc cv in
        ap is_empty (without_none e (l.entries w) (tagged_apart (home_of a) (home_of a w) e (l.entries w) r.tagged.1 (λ q. n (sym (q ∙ st.owns c w hc cv))))) ∙ full c w hc cv

    go : (b : Bool) → is_empty (without e (l.entries (home_of a e))) ≡ b → Contains (if b then without (home_of a e) (l.vertices c) else l.vertices c) w → is_empty (without e (l.entries w)) ≡ false
    go true h cv = elim (same_or w (home_of a e)) [
      | inl q ↦ absurd (not_in_without (home_of a e) (l.vertices c) (subst (λ x. Contains (without (home_of a e) (l.vertices c)) x) q cv))
      | inr n ↦ kept n (contains_before (home_of a e) w (l.vertices c) cv)
    ]
    go false h cv = elim (same_or w (home_of a e)) [
      | inl q ↦ ap (λ x. is_empty (without e (l.entries x))) q ∙ h
      | inr n ↦ kept n cv
    ]

vertices_are : (g : Shape) (es : List ℕ) (l : RingLists) (a : Arrays) → StandFor g l a → Distinct es → AllPresent g l a es → AreFull g l → (c : ℕ) → c < g.count
    → (lists_without_all (home_of a) es l).vertices c ≡ filter (λ v. not (is_empty (filter (keeps es) (l.entries v)))) (l.vertices c)
vertices_are g [] l a st d pr full c hc = sym (filter_whole (λ v. not (is_empty (filter (keeps []) (l.entries v)))) (l.vertices c)
    (λ v cv. ap (λ xs. not (is_empty xs)) (filter_whole (keeps []) (l.entries v) (λ x c. refl)) ∙ ap not (full c v hc cv)))
vertices_are g (e ∷ es) l a st d pr full c hc =
    vertices_are g es (lists_without (home_of a e) e l) (take e a) (stands-take g l a e st pr.0) d.1 (all-after g l a e es d.0 pr.1) (full-after g l a e st pr.0 full) c hc
    ∙ (go (is_empty (without e (l.entries (home_of a e)))) refl
    ∙ filter_agree left (λ v. not (is_empty (filter (keeps (e ∷ es)) (l.entries v)))) (λ v. ap (λ xs. not (is_empty xs)) (filter_twice (λ y. not (y == e)) (keeps es) (l.entries v))) (l.vertices c))
  where
    left : ℕ → Bool
    left v = not (is_empty (filter (keeps es) (without e (l.entries v))))

    go : (b : Bool) → is_empty (without e (l.entries (home_of a e))) ≡ b → filter left (if b then without (home_of a e) (l.vertices c) else l.vertices c) ≡ filter left (l.vertices c)
    go true h = filter_without left (home_of a e) (l.vertices c) (ap (λ xs. not (is_empty (filter (keeps es) xs))) (empty_is (without e (l.entries (home_of a e))) h))
    go false h = refl

-- the entries listed are those of the plane
pub record AreEntriesOf (g : Shape) (l : RingLists) (plane_of : ℕ → ℕ) (p : ℕ) (es : List ℕ) : Type 0 where
  pub each : (e : ℕ) → Contains es e → plane_of e ≡ p
  pub all : (c v e : ℕ) → c < g.count → Contains (l.vertices c) v → Contains (l.entries v) e → plane_of e ≡ p → Contains es e

pub without-plane : (g : Shape) (plane_of : ℕ → ℕ) (p : ℕ) (es : List ℕ) (l : RingLists) (a : Arrays) → StandFor g l a → Distinct es → AllPresent g l a es → AreFull g l → AreEntriesOf g l plane_of p es
    → AreSame g (lists_without_plane plane_of p l) (lists_without_all (home_of a) es l)
without-plane g plane_of p es l a st d pr full of = record {
  vertices = λ c hc. filter_same (λ v. not (is_empty (filter (λ e. not (plane_of e == p)) (l.entries v)))) (λ v. not (is_empty (filter (keeps es) (l.entries v)))) (l.vertices c)
      (λ v cv. ap (λ xs. not (is_empty xs)) (at c v hc cv)) ∙ sym (vertices_are g es l a st d pr full c hc);
  entries = λ c v hc cv. at c v hc (filter_inside (λ w. not (is_empty (filter (λ e. not (plane_of e == p)) (l.entries w)))) (l.vertices c) v cv) ∙ sym (entries_are (home_of a) es l v);
}
  where
    test_is : (c v e : ℕ) → c < g.count → Contains (l.vertices c) v → Contains (l.entries v) e → not (plane_of e == p) ≡ keeps es e
    test_is c v e hc cv ce = elim (contains_or es e) [
      | inl m ↦ ap not (eq-eqb (plane_of e) p (of.each e m)) ∙ sym (keeps_listed es e m)
      | inr n ↦ ap not (eqb_false (plane_of e) p (λ q. n (of.all c v e hc cv ce q))) ∙ sym (keeps_not es e n)
    ]

    at : (c v : ℕ) → c < g.count → Contains (l.vertices c) v → filter (λ e. not (plane_of e == p)) (l.entries v) ≡ filter (keeps es) (l.entries v)
    at c v hc cv = filter_same (λ e. not (plane_of e == p)) (keeps es) (l.entries v) (λ e ce. test_is c v e hc cv ce)
