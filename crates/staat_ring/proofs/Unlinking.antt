-- The invariant of the rings is kept, and what unlink and relink do to it and to the view.
use Rattle.std.proofs.Common.{◌≡◌, ◌≢◌, ⊎_elim, ℕ, zero, suc, ◌+◌, ◌*◌, ◌/◌, ◌%◌, ◌<◌, ◌≤◌, refl, sym, ap, subst, ◌∙◌, arith, List, [], ◌∷◌, ◌++◌, length, Bool, true, false, not, if◌then◌else◌, Contains, eq-eqb, get_or, rules, map, take, drop, inl, inr, ◌-◌, set, ◌&&◌}
use Rattle.std.specs.List.{filter, range_with_len}
use Rattle.std.proofs.lemmas.List.FromFn.{get_or-range_with_len, length-range_with_len}
use Rattle.std.specs.Prelude.{◌==◌}
use Rattle.std.proofs.Math.Nat.{mul-add-mod_self_left, mul-le-mul_right, mod-eq_of_lt}
use Rattle.std.proofs.Math.ListN.{length-set}
use Rattle.std.proofs.lemmas.List.Sums.{count_by-le-length, length-filter}
use Rattle.std.proofs.lemmas.List.Elements.{Contains-append_cases, filter_agree}
use Rattle.staat_ring.proofs.WithoutLemmas.{filter_from}
use Rattle.staat_ring.specs.Links.{Arrays, Apart, Distinct, unlink, is_bare, take as take_out, take_all, give_all}
use Rattle.staat_ring.proofs.Chains.{CanTakeAll, give_all-take_all}
use Rattle.staat_ring.specs.Stands.{Shape, RingLists, StandFor, is_empty, home_of, IsPresent, AllPresent}
use Rattle.staat_ring.proofs.RingLemmas.{lists_without_plane, lists_without_all, lists_without, AreSame, apart_from, without, split, without_mid, distinct_filter, AreShort, lists_of_is, stands_same, undo-push, kept-push, listed-push, rings-without, rings-same, below_small, still_without}
use Rattle.staat_ring.specs.RingViews.{entries_of, entries_on, lists_of, undo_all, unlinked_planes, shape, is_out, undo, rings_at, StandForCircles, ring_of, rings_of, CanBeUndone, still_linked, numbers_below, arrangement_of, HaveTakenOut, AreFlags, AreFlagged}
use Rattle.staat_ring.specs.Numbered.{plane_of}
use Rattle.staat_ring.specs.Without.{rings_without, IsUnlinked, unlinked_plane}
use Rattle.staat_ring.proofs.TwoLevels.{length_if, stands-take_all, present-after, without-plane}
use Rattle.staat_vec.proofs.Truth.{and_split, false_true_clash, from_not_true, and_false, and_true}
use Rattle.staat_vec.proofs.Naturals.{apart_from_test, le_or_past, same_or, eq_test_false}
use Rattle.std.proofs.lemmas.Grind.{common_steps, get_or-set_at}
use Rattle.std.proofs.lemmas.Bool.Decides.{nat_tests}
use Rattle.std.proofs.lemmas.List.Folds.{map_fixed}
use Rattle.std.proofs.lemmas.List.{drop-append-le, length-append, take-append-le, take_all as take_whole, drop_all, length_push, get_or-set_other, same_from_push, take-set-le, take_more_set}
use Rattle.staat_model.proofs.Members.{All-from_members}
use Rattle.staat_vec.proofs.ListLaws.{map_twice}
use Rattle.std.proofs.Math.Seq.{take-suc}
use Rattle.staat_ring.specs.Rings.{Arrangement, UnlinkedPlane, Ring}
use Rattle.std.proofs.lemmas.Bool.{false_from_ne_true}

-- ---- the numbers of the entries
pub plane_of_entry : (n p c s : ℕ) → p < n → s < 2 → plane_of n (2 * (c * n + p) + s) ≡ p
plane_of_entry n p c s h g =
    let half : (2 * (c * n + p) + s) / 2 ≡ c * n + p = omega arith in
    let turned : c * n + p ≡ n * c + p = omega arith in
    ap (λ x. x % n) (half ∙ turned) ∙ (mul-add-mod_self_left n c p ∙ mod-eq_of_lt h)

-- one of the two entries of p on the circle k
pub two_cases : (n p k e : ℕ) → Contains (entries_on n p k) e → (s : ℕ) × (s < 2) × (e ≡ 2 * (k * n + p) + s) × (k ≢ p)
two_cases n p k e c = go (k == p) refl c
  where
    go : (b : Bool) → (k == p) ≡ b → Contains (if b then [] else (2 * (k * n + p)) ∷ (2 * (k * n + p) + 1) ∷ []) e → (s : ℕ) × (s < 2) × (e ≡ 2 * (k * n + p) + s) × (k ≢ p)
    go true h (i, lt, q) = absurd (omega arith)
    go false h (zero, lt, q) = (zero, omega arith, omega (arith, q), λ w. false_true_clash (k == p) h (eq-eqb k p w))
    go false h (suc zero, lt, q) = (1, omega arith, sym q, λ w. false_true_clash (k == p) h (eq-eqb k p w))
    go false h (suc (suc i), lt, q) = absurd (omega arith)

-- an entry of p on one of the circles below k
pub entry_in : (n p k e : ℕ) → Contains (entries_of n p k) e → (c : ℕ) × (c < k) × Contains (entries_on n p c) e
entry_in n p zero e c = absurd (omega (arith, c.1))
entry_in n p (suc k) e c = ⊎_elim {C = (c : ℕ) × (c < suc k) × Contains (entries_on n p c) e}
    (λ a. let (d, l, x) = entry_in n p k e a in (d, omega (arith, l), x))
    (λ b. (k, omega arith, b))
    (Contains-append_cases (entries_of n p k) (entries_on n p k) e c)

pub entries_planes : (n p k e : ℕ) → p < n → Contains (entries_of n p k) e → plane_of n e ≡ p
entries_planes n p k e h c = let (d, l, x) = entry_in n p k e c in let (s, ls, q, ne) = two_cases n p d e x in ap (plane_of n) q ∙ plane_of_entry n p d s h ls

entries_below : (n p k e : ℕ) → p < n → Contains (entries_of n p k) e → e < 2 * (k * n)
entries_below n p k e h c =
    let (d, l, x) = entry_in n p k e c in
    let (s, ls, q, ne) = two_cases n p d e x in
    let row : suc d * n ≤ k * n = mul-le-mul_right n l in
    omega (arith, ls, q, row)

apart_append : (x : ℕ) (xs ys : List ℕ) → Apart x xs → Apart x ys → Apart x (xs ++ ys)
apart_append x [] ys h g = g
apart_append x (y ∷ xs) ys h g = (h.0, apart_append x xs ys h.1 g)

distinct_append : (xs ys : List ℕ) → Distinct xs → Distinct ys → ((x y : ℕ) → Contains xs x → Contains ys y → x < y) → Distinct (xs ++ ys)
distinct_append [] ys dx dy h = dy
distinct_append (x ∷ xs) ys dx dy h = (
  apart_append x xs ys dx.0 (apart_from x ys (λ y c e. let lt = h x y (zero, omega arith, refl) c in omega arith)),
  distinct_append xs ys dx.1 dy (λ a b c d. h a b (suc c.0, omega (arith, c.1), c.2) d),
)

two_distinct : (n p k : ℕ) → Distinct (entries_on n p k)
two_distinct n p k = go (k == p)
  where
    go : (b : Bool) → Distinct (if b then [] else (2 * (k * n + p)) ∷ (2 * (k * n + p) + 1) ∷ [])
    go true = tt
    go false = (((λ e. omega arith), tt), (tt, tt))

pub entries_distinct : (n p k : ℕ) → p < n → Distinct (entries_of n p k)
entries_distinct n p zero h = tt
entries_distinct n p (suc k) h = distinct_append (entries_of n p k) (entries_on n p k) (entries_distinct n p k h) (two_distinct n p k)
    (λ x y cx cy. let b = entries_below n p k x h cx in let t = two_cases n p k y cy in omega (arith, t.2))

-- ---- presence
present_all : (g : Shape) (es : List ℕ) (l : RingLists) (a : Arrays) (f : ℕ) → Apart f es → IsPresent g l a f → IsPresent g (lists_without_all (home_of a) es l) (take_all es a) f
present_all g [] l a f d h = h
present_all g (e ∷ es) l a f d h = present_all g es (lists_without (home_of a e) e l) (take_out e a) f d.1 (present-after g l a e f (λ q. d.0 (sym q)) h)

each_present : (g : Shape) (es fs : List ℕ) (l : RingLists) (a : Arrays) → ((f : ℕ) → Contains fs f → Apart f es) → AllPresent g l a fs → AllPresent g (lists_without_all (home_of a) es l) (take_all es a) fs
each_present g es [] l a d h = tt
each_present g es (f ∷ fs) l a d h = (present_all g es l a f (d f (zero, omega arith, refl)) h.0, each_present g es fs l a (λ x c. d x (suc c.0, omega (arith, c.1), c.2)) h.1)

present_same : (g : Shape) (l m : RingLists) (a : Arrays) (f : ℕ) → AreSame g l m → IsPresent g l a f → IsPresent g m a f
present_same g l m a f s h = record {
  circle = h.circle;
  vertex = subst (λ xs. Contains xs (home_of a f)) (s.vertices (g.circle (home_of a f)) h.circle) h.vertex;
  entry = subst (λ xs. Contains xs f) (s.entries (g.circle (home_of a f)) (home_of a f) h.circle h.vertex) h.entry;
}

each_same : (g : Shape) (l m : RingLists) (a : Arrays) (fs : List ℕ) → AreSame g l m → AllPresent g l a fs → AllPresent g m a fs
each_same g l m a [] s h = tt
each_same g l m a (f ∷ fs) s h = (present_same g l m a f s h.0, each_same g l m a fs s h.1)

pub same_trans : (g : Shape) (l m k : RingLists) → AreSame g l m → AreSame g m k → AreSame g l k
same_trans g l m k s t = record {
  vertices = λ c hc. s.vertices c hc ∙ t.vertices c hc;
  entries = λ c v hc cv. s.entries c v hc cv ∙ t.entries c v hc (subst (λ xs. Contains xs v) (s.vertices c hc) cv);
}

-- ---- lengths
lengths_kept : (es : List ℕ) (a : Arrays) → (length (take_all es a).circles.next ≡ length a.circles.next) × (length (take_all es a).vertices.next ≡ length a.vertices.next)
lengths_kept [] a = (refl, refl)
lengths_kept (e ∷ es) a =
    let r = lengths_kept es (take_out e a) in
    (r.0 ∙ length_if (is_bare (unlink e a.vertices) (home_of a e)) a.circles (home_of a e), r.1 ∙ length-set a.vertices.next (get_or a.vertices.prev e 0) (get_or a.vertices.next e 0))

filter_length : (test : ℕ → Bool) (xs : List ℕ) → length (filter test xs) ≤ length xs
filter_length test xs = rw length-filter (count_by-le-length test xs)

listed_apart : (out : List ℕ) (p q : ℕ) → is_out (out ++ p ∷ []) q ≡ false → (is_out out q ≡ false) × (q ≢ p)
listed_apart out p q h =
    let (a, b) = and_split (not (is_out out q)) (not (p == q)) (sym (listed-push out p q) ∙ ap not h) in
    (from_not_true (is_out out q) a, λ e. apart_from_test p q b (sym e))

-- ---- one plane is unlinked
module _ (n p : ℕ) (out : List ℕ) (a : Arrays) (in' : p < n) (linked : is_out out p ≡ false) (good : StandForCircles n out a) where
  abbrev es : List ℕ
  es = entries_of n p n

  abbrev old : RingLists
  old = lists_of (shape n) a

  abbrev mid : RingLists
  mid = lists_without_all (home_of a) es old

  abbrev cut : RingLists
  cut = lists_without_plane (plane_of n) p old

  abbrev new : RingLists
  new = lists_of (shape n) (take_all es a)

  taken : CanTakeAll es a × StandFor (shape n) mid (take_all es a)
  taken = stands-take_all (shape n) es old a good.stands (entries_distinct n p n in') (good.present p in' linked)

  pub undone : undo n p (take_all es a) ≡ a
  undone = give_all-take_all es a taken.0

  cut_mid : AreSame (shape n) cut mid
  cut_mid = without-plane (shape n) (plane_of n) p es old a good.stands (entries_distinct n p n in') (good.present p in' linked) good.full
      (record {
        each = λ e c. entries_planes n p n e in' c;
        all = λ c v e hc cv ce q. subst (λ k. Contains (entries_of n k n) e) q (good.known c v e hc cv ce);
      })

  in_old : (c v : ℕ) → c < n → Contains (mid.vertices c) v → Contains (old.vertices c) v
  in_old c v hc cv = (filter_from (λ w. not (is_empty (filter (λ e. not (plane_of n e == p)) (old.entries w)))) (old.vertices c) v (subst (λ xs. Contains xs v) (sym (cut_mid.vertices c hc)) cv)).0

  in_cut : (c v : ℕ) → c < n → Contains (mid.vertices c) v → Contains (cut.vertices c) v
  in_cut c v hc cv = subst (λ xs. Contains xs v) (sym (cut_mid.vertices c hc)) cv

  short : AreShort (shape n) mid (take_all es a)
  short = record {
    vertices = λ c hc.
        let f = filter_length (λ w. not (is_empty (filter (λ e. not (plane_of n e == p)) (old.entries w)))) (old.vertices c) in
        let e = ap length (cut_mid.vertices c hc) in
        let k = (lengths_kept es a).0 in
        let s = good.short_circles c hc in omega arith;
    entries = λ c v hc cv.
        let f = filter_length (λ e. not (plane_of n e == p)) (old.entries v) in
        let e = ap length (cut_mid.entries c v hc (in_cut c v hc cv)) in
        let k = (lengths_kept es a).1 in
        let s = good.short_vertices c v hc (in_old c v hc cv) in omega arith;
  }

  mid_new : AreSame (shape n) mid new
  mid_new = lists_of_is (shape n) mid (take_all es a) short taken.1

  cut_new : AreSame (shape n) cut new
  cut_new = same_trans (shape n) cut mid new cut_mid mid_new

  new_mid : (c v : ℕ) → c < n → Contains (new.vertices c) v → Contains (mid.vertices c) v
  new_mid c v hc cv = subst (λ xs. Contains xs v) (sym (mid_new.vertices c hc)) cv

  pub good-unlink : StandForCircles n (out ++ p ∷ []) (take_all es a)
  good-unlink = record {
    stands = stands_same (shape n) mid new (take_all es a) mid_new taken.1;
    full = λ c v hc cv.
        let cv' = in_cut c v hc (new_mid c v hc cv) in
        ap is_empty (sym (cut_new.entries c v hc cv'))
        ∙ from_not_true (is_empty (cut.entries v)) (filter_from (λ w. not (is_empty (filter (λ e. not (plane_of n e == p)) (old.entries w)))) (old.vertices c) v cv').1;
    short_circles = λ c hc. subst (λ xs. length xs < length (take_all es a).circles.next) (mid_new.vertices c hc) (short.vertices c hc);
    short_vertices = λ c v hc cv. subst (λ xs. length xs < length (take_all es a).vertices.next) (mid_new.entries c v hc (new_mid c v hc cv)) (short.entries c v hc (new_mid c v hc cv));
    present = λ q hq lq.
        let s = listed_apart out p q lq in
        each_same (shape n) mid new (take_all es a) (entries_of n q n) mid_new
        (each_present (shape n) es (entries_of n q n) old a
        (λ f cf. apart_from f es (λ e ce x. s.1 (sym (entries_planes n q n f hq cf) ∙ (ap (plane_of n) (sym x) ∙ entries_planes n p n e in' ce))))
        (good.present q hq s.0));
    known = λ c v e hc cv ce.
        let cv' = new_mid c v hc cv in
        good.known c v e hc (in_old c v hc cv')
        (filter_from (λ e. not (plane_of n e == p)) (old.entries v) e (subst (λ xs. Contains xs e) (sym (cut_new.entries c v hc (in_cut c v hc cv'))) ce)).0;
    numbered = λ c v e hc cv ce.
        let cv' = new_mid c v hc cv in
        good.numbered c v e hc (in_old c v hc cv')
        (filter_from (λ e. not (plane_of n e == p)) (old.entries v) e (subst (λ xs. Contains xs e) (sym (cut_new.entries c v hc (in_cut c v hc cv'))) ce)).0;
  }

  pub rings-unlink : rings_at n (out ++ p ∷ []) (take_all es a) ≡ rings_without p (rings_at n out a)
  rings-unlink = sym (rings-same n (out ++ p ∷ []) cut new cut_new) ∙ rings-without n p out old

-- ---- the invariant with the list of unlinked planes, and what unlink and relink do to it and to the view

pub sound_is_good : (n : ℕ) (out : List ℕ) (a : Arrays) → CanBeUndone n out a → StandForCircles n out a
sound_is_good n out a s =
    subst (λ l. StandForCircles n l a) (take_whole (length out) out (omega arith))
    (subst (λ l. StandForCircles n (take (length out) out) (undo_all (undo n) l a)) (drop_all (length out) out (omega arith)) (s (length out) (omega arith)))

pub sound-push : (n p : ℕ) (out : List ℕ) (a b : Arrays) → undo n p b ≡ a → StandForCircles n (out ++ p ∷ []) b → CanBeUndone n out a → CanBeUndone n (out ++ p ∷ []) b
sound-push n p out a b e good s k le = elim (le_or_past k (length out)) [
  | inl h ↦ subst (λ l. StandForCircles n l (undo_all (undo n) (drop k (out ++ p ∷ [])) b)) (sym (take-append-le k out (p ∷ []) h))
      (subst (λ x. StandForCircles n (take k out) x) (sym (ap (λ l. undo_all (undo n) l b) (drop-append-le k out (p ∷ []) h) ∙ (undo-push (undo n) (drop k out) p b ∙ ap (undo_all (undo n) (drop k out)) e))) (s k h))
  | inr h ↦ let l = length_push out p in
      subst (λ l. StandForCircles n l (undo_all (undo n) (drop k (out ++ p ∷ [])) b)) (sym (take_whole k (out ++ p ∷ []) (omega arith)))
      (subst (λ l. StandForCircles n (out ++ p ∷ []) (undo_all (undo n) l b)) (sym (drop_all k (out ++ p ∷ []) (omega arith))) good)
]

pub sound-pop : (n p : ℕ) (out : List ℕ) (b : Arrays) → CanBeUndone n (out ++ p ∷ []) b → CanBeUndone n out (undo n p b)
sound-pop n p out b s k h =
    let l = length_push out p in
    subst (λ l. StandForCircles n l (undo_all (undo n) (drop k out) (undo n p b))) (take-append-le k out (p ∷ []) h)
    (subst (λ x. StandForCircles n (take k (out ++ p ∷ [])) x) (ap (λ l. undo_all (undo n) l b) (drop-append-le k out (p ∷ []) h) ∙ undo-push (undo n) (drop k out) p b) (s k (omega arith)))

-- ---- the planes that are linked
pub planes_of_rings : (n : ℕ) (out : List ℕ) (l : RingLists) → map (λ r. r.plane) (rings_of n out l) ≡ still_linked n out
planes_of_rings n out l = map_twice (λ r. r.plane) (ring_of n l) (still_linked n out) ∙ map_fixed (λ c. c) (still_linked n out) (All-from_members (λ c. c ≡ c) (still_linked n out) (λ c _. refl))

pub linked_plane : (n : ℕ) (out : List ℕ) (p : ℕ) → Contains (still_linked n out) p → (p < n) × (is_out out p ≡ false)
linked_plane n out p c =
    let f = filter_from (λ c. not (is_out out c)) (numbers_below n) p c in
    (below_small n p f.0, from_not_true (is_out out p) f.1)

range_distinct : (a n : ℕ) → Distinct (range_with_len a n)
range_distinct a zero = tt
range_distinct a (suc n) = (apart_from a (range_with_len (a + 1) n) (λ y (k, lt, e) q. let l = length-range_with_len (a + 1) n in let g = get_or-range_with_len (a + 1) n k y (omega (arith, lt, l)) in omega (arith, g, e, q)), range_distinct (a + 1) n)

pub one_less : (n p : ℕ) (out : List ℕ) → Contains (still_linked n out) p → length (still_linked n (out ++ p ∷ [])) + 1 ≡ length (still_linked n out)
one_less n p out c =
    let d : Distinct (still_linked n out) = distinct_filter (λ c. not (is_out out c)) (numbers_below n) (range_distinct 0 n) in
    let s = split (still_linked n out) p c in
    let d' : Distinct (s.left ++ p ∷ s.right) = subst (λ xs. Distinct xs) s.is d in
    let w : still_linked n (out ++ p ∷ []) ≡ s.left ++ s.right = still_without n p out ∙ (ap (without p) s.is ∙ without_mid p s.left s.right d') in
    let lw = ap length w in
    let ls = ap length s.is in
    omega (arith, lw, ls, length-append s.left (p ∷ s.right), length-append s.left s.right)

-- ---- unlink

pub is_linked : (n : ℕ) (out : List ℕ) (a : Arrays) (v : Arrangement) (p : ℕ) → arrangement_of n out a ≡ v → Contains (map (λ r. r.plane) v.rings) p → Contains (still_linked n out) p
is_linked n out a v p e c = subst (λ xs. Contains xs p) (ap (λ x. map (λ r. r.plane) x.rings) (sym e) ∙ planes_of_rings n out (lists_of (shape n) a)) c

pub is_small : (n : ℕ) (out : List ℕ) (a : Arrays) (v : Arrangement) (p : ℕ) → arrangement_of n out a ≡ v → Contains (map (λ r. r.plane) v.rings) p → p < n
is_small n out a v p e c = (linked_plane n out p (is_linked n out a v p e c)).0

pub has_room : (n count : ℕ) (order : List ℕ) (a : Arrays) (v : Arrangement) (p : ℕ) → HaveTakenOut n count order a → arrangement_of n (take count order) a ≡ v → Contains (map (λ r. r.plane) v.rings) p → count < n
has_room n count order a v p k e c = grind (arith, common_steps, nat_tests, is_linked)

module _ (n count : ℕ) (order : List ℕ) (a b : Arrays) (v : Arrangement) (p : ℕ) (k : HaveTakenOut n count order a) (e : arrangement_of n (take count order) a ≡ v) (c : Contains (map (λ r. r.plane) v.rings) p) (is : b ≡ take_all (entries_of n p n) a) where
  linked : Contains (still_linked n (take count order)) p
  linked = is_linked n (take count order) a v p e c

  room : count < length order
  room = let r = has_room n count order a v p k e c in let s = k.size in omega arith

  back : undo n p b ≡ a
  back =
      let l = linked_plane n (take count order) p linked in
      ap (undo n p) is ∙ undone n p (take count order) a l.0 l.1 (sound_is_good n (take count order) a k.sound)

  pub unlink_rings : rings_at n (take (count + 1) (set order count p)) b ≡ rings_without p v.rings
  unlink_rings =
      let l = linked_plane n (take count order) p linked in
      ap (λ o. rings_at n o b) (take_more_set order count p room)
      ∙ (ap (rings_at n (take count order ++ p ∷ [])) is
      ∙ (rings-unlink n p (take count order) a l.0 l.1 (sound_is_good n (take count order) a k.sound)
      ∙ ap (λ x. rings_without p x.rings) e))

  pub unlink_kept : unlinked_planes (undo n) (rings_at n) [] (take (count + 1) (set order count p)) b ≡ v.unlinked ++ (record { plane = p; before = v.rings }) ∷ []
  unlink_kept = search (rules, take_more_set, kept-push, room, back)

  pub unlink_is : IsUnlinked p v (arrangement_of n (take (count + 1) (set order count p)) b)
  unlink_is = record { rings = unlink_rings; unlinked = unlink_kept }

  pub unlink_invariant : length b.home ≡ length a.home → HaveTakenOut n (count + 1) (set order count p) b
  unlink_invariant h =
      let l = linked_plane n (take count order) p linked in
      let s = k.size in
      let r = room in
      let ls = length-set order count p in
      record {
        few = k.few;
        room = let q = k.room in omega arith;
        size = omega arith;
        most = omega arith;
        all = λ j le. elim (le_or_past j count) [
          | inl g ↦ subst (λ o. j + length (still_linked n o) ≡ n) (sym (take-set-le j order count p g)) (k.all j g)
          | inr g ↦ let m = one_less n p (take count order) linked in
              let t = k.all count (omega arith) in
              let j' : j ≡ count + 1 = omega arith in
              let w = ap (λ o. length (still_linked n o)) (ap (λ i. take i (set order count p)) j' ∙ take_more_set order count p room) in
              omega arith
        ];
        planes = λ j lt. elim (same_or j count) [
          | inl q ↦ subst (λ x. x < n) (sym (get_or-set_at order count j p 0 q room)) l.0
          | inr q ↦ subst (λ x. x < n) (sym (get_or-set_other order count j p 0 q)) (k.planes j (omega arith))
        ];
        sound = subst (λ o. CanBeUndone n o b) (sym (take_more_set order count p room))
            (sound-push n p (take count order) a b back
            (subst (λ x. StandForCircles n (take count order ++ p ∷ []) x) (sym is) (good-unlink n p (take count order) a l.0 l.1 (sound_is_good n (take count order) a k.sound))) k.sound);
      }

-- ---- relink
same_last : {X : Type 0} (xs ys : List X) (x y : X) → xs ++ x ∷ [] ≡ ys ++ y ∷ [] → x ≡ y
same_last xs ys x y e = (same_from_push xs ys x y e).1

not_nil : {X : Type 0} (xs : List X) (x : X) → [] ≡ xs ++ x ∷ [] → ⊥
not_nil [] x e = cc
not_nil (y ∷ xs) x e = cc

module _ (n count : ℕ) (order : List ℕ) (a : Arrays) (v : Arrangement) (p : ℕ) (k : HaveTakenOut n count order a) (e : arrangement_of n (take count order) a ≡ v)
    (u : List (UnlinkedPlane (List Ring))) (before : List Ring) (last : v.unlinked ≡ u ++ unlinked_plane p before ∷ []) where
  pub some : 0 < count
  some = search (rules, not_nil)

  split_order : take count order ≡ take (count - 1) order ++ get_or order (count - 1) 0 ∷ []
  split_order = grind (arith, common_steps, nat_tests, take-suc, some)

  pushed : v.unlinked ≡ unlinked_planes (undo n) (rings_at n) [] (take (count - 1) order) (undo n (get_or order (count - 1) 0) a)
      ++ (record { plane = get_or order (count - 1) 0; before = rings_at n (take (count - 1) order) (undo n (get_or order (count - 1) 0) a) }) ∷ []
  pushed = search (rules, kept-push, split_order)

  pub is_last : get_or order (count - 1) 0 ≡ p
  is_last = search (rules, same_last, pushed)

  pub split_is : take count order ≡ take (count - 1) order ++ p ∷ []
  split_is = split_order ∙ ap (λ q. take (count - 1) order ++ q ∷ []) is_last

  pub last_small : p < n
  last_small = let s = some in subst (λ x. x < n) is_last (k.planes (count - 1) (omega arith))

  pub relink_kept : (b : Arrays) → b ≡ give_all (entries_of n p n) a
      → v.unlinked ≡ unlinked_planes (undo n) (rings_at n) [] (take (count - 1) order) b ++ (record { plane = p; before = rings_at n (take (count - 1) order) b }) ∷ []
  relink_kept b is = search (rules, pushed, is_last)

  pub relink_invariant : (b : Arrays) → b ≡ give_all (entries_of n p n) a → length b.home ≡ length a.home → HaveTakenOut n (count - 1) order b
  relink_invariant b is h =
      let s = some in
      let m = k.most in
      record {
        few = k.few;
        room = let q = k.room in omega arith;
        size = k.size;
        most = omega arith;
        all = λ j le. k.all j (omega arith);
        planes = λ j lt. k.planes j (omega arith);
        sound = subst (λ x. CanBeUndone n (take (count - 1) order) x) (sym is)
            (sound-pop n p (take (count - 1) order) a (subst (λ o. CanBeUndone n o a) split_is k.sound));
      }

-- ---- the flags of the linked planes

other_stays : (out : List ℕ) (p q : ℕ) → p ≢ q → not (is_out (out ++ p ∷ []) q) ≡ not (is_out out q)
other_stays out p q ne = listed-push out p q ∙ ap (λ b. not (is_out out q) && not b) (eq_test_false p q ne) ∙ and_true (not (is_out out q))

self_out : (out : List ℕ) (p q : ℕ) → p ≡ q → not (is_out (out ++ p ∷ []) q) ≡ false
self_out out p q e = listed-push out p q ∙ ap (λ b. not (is_out out q) && not b) (eq-eqb p q e) ∙ and_false (not (is_out out q))

pub all_linked : (n : ℕ) (flags : List Bool) → length flags ≡ n → ((p : ℕ) → p < n → get_or flags p false ≡ true) → AreFlags n [] flags
all_linked n flags size each = record { size = size; each = each }

flags_pushed : (n p : ℕ) (out : List ℕ) (flags : List Bool) → p < n → AreFlags n out flags → AreFlags n (out ++ p ∷ []) (set flags p false)
flags_pushed n p out flags lp are = search (rules, ⊎_elim, length-set, get_or-set_other, get_or-set_at, same_or, other_stays, self_out)

popped : (n p : ℕ) (out : List ℕ) (flags : List Bool) → p < n → is_out out p ≡ false → AreFlags n (out ++ p ∷ []) flags → AreFlags n out (set flags p true)
popped n p out flags lp free are = search (rules, ⊎_elim, length-set, get_or-set_other, get_or-set_at, same_or, other_stays)

-- the plane that was unlinked last was linked before
once_out : (n count : ℕ) (order : List ℕ) (a : Arrays) (p : ℕ) → HaveTakenOut n count order a → 0 < count → take count order ≡ take (count - 1) order ++ p ∷ [] → is_out (take (count - 1) order) p ≡ false
once_out n count order a p k some split = false_from_ne_true (is_out (take (count - 1) order) p) twice
  where
    twice : is_out (take (count - 1) order) p ≡ true → ⊥
    twice e =
        let same : still_linked n (take (count - 1) order ++ p ∷ []) ≡ still_linked n (take (count - 1) order) =
        filter_agree (λ c. not (is_out (take (count - 1) order ++ p ∷ []) c)) (λ c. not (is_out (take (count - 1) order) c))
        (λ q. ⊎_elim {C = not (is_out (take (count - 1) order ++ p ∷ []) q) ≡ not (is_out (take (count - 1) order) q)}
        (λ s. self_out (take (count - 1) order) p q s ∙ sym (ap (λ x. not (is_out (take (count - 1) order) x)) (sym s) ∙ ap not e))
        (λ ne. other_stays (take (count - 1) order) p q ne) (same_or p q)) (numbers_below n) in
        let now = k.all count (omega arith) in
        let before = k.all (count - 1) (omega arith) in
        let lengths = ap (λ o. length (still_linked n o)) split ∙ ap length same in
        omega (arith, now, before, lengths, some)

pub flags_unlinked : (n count : ℕ) (order : List ℕ) (linked : List Bool) (a : Arrays) (p : ℕ) → AreFlagged n count order linked a → count < n → p < n
    → AreFlags n (take (count + 1) (set order count p)) (set linked p false)
flags_unlinked n count order linked a p k room lp =
    subst (λ (o : List ℕ). AreFlags n o (set linked p false)) (sym (take_more_set order count p (let s = k.arrays.size in omega (arith, room, s)))) (flags_pushed n p (take count order) linked lp k.flags)

pub flags_relinked : (n count : ℕ) (order : List ℕ) (linked : List Bool) (a : Arrays) (p : ℕ) → AreFlagged n count order linked a → 0 < count → p < n → take count order ≡ take (count - 1) order ++ p ∷ []
    → AreFlags n (take (count - 1) order) (set linked p true)
flags_relinked n count order linked a p k some lp split =
    popped n p (take (count - 1) order) linked lp (once_out n count order a p k.arrays some split) (subst (λ (o : List ℕ). AreFlags n o linked) split k.flags)
