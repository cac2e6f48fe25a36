-- One pair is written, and one plane gets another sign: how many pairs block, and how many of their facets are positive.
-- The graph of signs has the arcs of the blocking graph among the parts whose planes are linked.
use Rattle.std.proofs.Common.{rules, ◌≡◌, ⊎_elim, ℕ, zero, suc, ◌+◌, ◌<◌, ◌≤◌, Bool, true, ◌&&◌, arith, ap, sym, subst, ◌∙◌, refl, List, length, take, get_or, set, cond, eq-eqb, get_or-set_other, get_or-set_same, length-set, [], ◌∷◌, ◌≢◌, All, ◌↔◌, inl, inr, Contains, ℤ, pos, negsuc, neg_ℤ, ◌<ℤ◌}
use Rattle.std.specs.Prelude.{IsTrue, ◌↔◌, ◌==◌, slice_index, slice_set, replicate, Bool, true, false, map, ◌&&◌, not, cond, int_lt, T, Some, slice_get}
use Rattle.std.proofs.lemmas.List.{length-replicate, ext_get_or, length-map}
use Rattle.std.proofs.lemmas.List.Sums.{sum_by-cons, sum_by-set, get_or-le-sum_by, count_by_more_yes, sum_by-take-le, count_by-le-length}
use Rattle.staat_ring.specs.declared.pairs.PairCount.{PairCount}
use Rattle.staat_model.specs.declared.set.PartSet.{PartSet}
use Rattle.staat_model.specs.Sets.{Has, IsSubset}
use Rattle.staat_graph.specs.Graphs.{IsStrong, HasArc}
use Rattle.staat_ring.specs.BlockCounts.{HasBlock, parts_at}
use Rattle.staat_ring.proofs.Strength.{strong_same}
use Rattle.staat_ring.specs.Pairs.{HasFullPair, CountBlocks, blocks, is_block, is_full, no_pair, occurs, pair_at, gained}
use Rattle.staat_vec.proofs.Naturals.{eq_test_false, same_or}
use Rattle.staat_vec.proofs.Truth.{and_false, and_split, false_true_clash}
use Rattle.std.proofs.Math.ListN.{get_or-map}
use Rattle.std.proofs.lemmas.Bool.Decides.{nat_tests, Decides-eqb}
use Rattle.staat_vec.specs.declared.vector.Sign.{Sign}
use Rattle.staat_vec.specs.declared.vector.Sign.TheVariants.{Neg, Zero, Pos}
use Rattle.staat_ring.specs.CountedSigns.{HasBlockingPair, IsBlockingPair, PlaneState, Signed, no_state, pairs_by, positive_pairs, positives, state_at}
use Rattle.staat_ring.specs.SignChanges.{AreSigned, uses, emptied, with_sign}
use Rattle.std.proofs.lemmas.Bool.{and_from}
use Rattle.std.specs.List.{count_by, sum_by}
use Rattle.std.proofs.lemmas.List.Elements.{All-get_or, All-tail, All-contains}
use Rattle.staat_ring.specs.Belonging.{PlaneFacet, BelongTo, HasAll, HoldSigns, IsCountedAt, IsPairIndexed, IsPairOf, IsUnused, facet_at, positive_at}
use Rattle.std.proofs.lemmas.Int.{ints}
use Rattle.std.proofs.lemmas.Option.{slice_get-get_or}
use Rattle.staat_vec.specs.declared.vector.V3.{V3}
use Rattle.staat_vec.specs.Primitives.{IsCanon, canon}
use Rattle.staat_vec.specs.Vectors.{dot, negative, origin, sign}
use Rattle.staat_vec.proofs.Canons.{canon-only, negative-negative}
use Rattle.staat_vec.proofs.VecRing.{negative_dot}
use Rattle.staat_model.specs.declared.assembly.Part.{Part}
use Rattle.staat_model.specs.declared.certificate.Arc.{Arc}
use Rattle.staat_model.specs.Circles.{IsLinked}
use Rattle.staat_model.specs.Removal.{Blocks}
use Rattle.staat_model.proofs.Members.{All-from_members}
use Rattle.staat_graph.specs.Blocking.{ShowsBlocking}
use Rattle.staat_planes.specs.Tables.{IsAhead}
use Rattle.staat_pairs.specs.Tables.{IsTableArc, IsPlaneNormal, IsTable, Table, WasMadeFrom, facets_of, slot}
use Rattle.staat_planes.proofs.GraphLaw.{ahead_is_blocking}
use Rattle.staat_ring.specs.Rings.{facet_by}
use Rattle.staat_planes.specs.PairOrder.{plane_at}
use Rattle.staat_vec.proofs.Unique.{Contains-cases, Contains-front, Contains-later, Contains-nothing}
use Rattle.staat_vec.proofs.ListLaws.{Contains-map}

abbrev pub one : Bool → ℕ
one b = cond b 1 0

-- a pair that is among those of the parts y where all its facets are positive
block_is : (x y : ℕ) (p : PairCount) → (is_full p ≡ true → y ≡ p.parts) → is_block x p ≡ ((y == x) && is_full p)
block_is x y p h = search (rules, and_false)

-- a pair is written, and the count of its parts
module _ (pairs : List PairCount) (counts : List ℕ) (q : ℕ) (is : CountBlocks pairs counts) (lt : q < length pairs) (p : PairCount) (small : p.parts < 1024) (home : is_full (pair_at pairs q) ≡ true → p.parts ≡ (pair_at pairs q).parts) where
  abbrev old : PairCount
  old = pair_at pairs q

  pub counted : (n : ℕ) → n + one (is_full old) ≡ slice_index counts p.parts + one (is_full p) → CountBlocks (set pairs q p) (slice_set counts p.parts n)
  counted n step = search (rules, ⊎_elim, eq-eqb, get_or-set_other, get_or-set_same, length-set, sum_by-set, eq_test_false, same_or, block_is)

  -- a full pair is among those counted
  pub some_block : is_full old ≡ true → 0 < slice_index counts p.parts
  some_block full = search (rules, eq-eqb, get_or-le-sum_by, block_is)

-- before its place, the number at place i stands less often in the list
pub not_yet : (qs : List ℕ) (i : ℕ) → i < length qs → occurs (get_or qs i 0) (take i qs) < occurs (get_or qs i 0) qs
not_yet qs i lt =
    let q : ℕ = get_or qs i 0 in
    let m = count_by_more_yes (λ x. x == q) qs i 0 lt (eq-eqb q q refl) in
    let le = sum_by-take-le (λ x. cond (x == q) 1 0) qs (i + 1) in
    omega (arith, m, le)

pub at_replicate : {X : Type 0} (n : ℕ) (x : X) (k : ℕ) → get_or (replicate n x) k x ≡ x
at_replicate zero x k = refl
at_replicate (suc n) x zero = refl
at_replicate (suc n) x (suc k) = at_replicate n x k

pub counted_start : (n : ℕ) → n ≤ 4096 → CountBlocks (replicate n no_pair) (replicate 1024 0)
counted_start n le = record {
  few = let e = length-replicate {A = PairCount} n no_pair in omega (arith, e, le);
  homes = λ q. subst (λ (p : PairCount). p.parts < 1024) (sym (at_replicate n no_pair q)) (omega arith);
  size = length-replicate {A = ℕ} 1024 0;
  each = λ x low. at_replicate 1024 0 x ∙ sym (none x n);
}
  where
    none : (x n : ℕ) → blocks x (replicate n no_pair) ≡ 0
    none x zero = refl
    none x (suc n) = let r = none x n in let b = ap one (and_false (0 == x)) in omega (arith, r, b, sum_by-cons (λ p. one (is_block x p)) no_pair (replicate n no_pair))

-- ---- strength

pub full_strong : (pairs now : List PairCount) (counts : List ℕ) (w : PartSet) (b : Bool) → pairs ≡ now → CountBlocks pairs counts → ((q : ℕ) → Has w q → q < 32) → IsTrue b ↔ IsStrong (HasBlock counts) w → IsTrue b ↔ IsStrong (HasFullPair now) w
full_strong pairs now counts w b view is small told =
    let same = strong_same (HasBlock counts) (HasFullPair now) w (λ p q p_in q_in. subst (λ (xs : List PairCount). HasBlock counts p q ↔ HasFullPair xs p q) view (each p q (small p p_in) (small q q_in))) in
    (λ e. same.0 (told.0 e), λ s. told.1 (same.1 s))
  where
    place : (p q : ℕ) → p < 32 → q < 32 → parts_at p q < 1024
    place p q lp lq = omega arith

    each : (p q : ℕ) → p < 32 → q < 32 → HasBlock counts p q ↔ HasFullPair pairs p q
    each p q lp lq = let e = is.each (parts_at p q) (place p q lp lq) in (λ h. subst (λ n. 0 < n) e h, λ h. subst (λ n. 0 < n) (sym e) h)

-- ---- one plane gets another sign

positive_part : (s : Sign) (along against : List ℕ) (q : ℕ) → occurs q (pairs_by s along against) ≤ occurs q along + occurs q against
positive_part Neg along against q = omega arith
positive_part Zero along against q = omega arith
positive_part Pos along against q = omega arith

pub positives-le-uses : (q : ℕ) (states : List PlaneState) → positives q states ≤ uses q states
positives-le-uses q [] = omega arith
positives-le-uses q (s ∷ states) =
    let r = positives-le-uses q states in
    let h = positive_part s.sign s.along s.against q in
    omega (arith, r, h, sum_by-cons (λ s. occurs q (positive_pairs s)) s states, sum_by-cons (λ s. occurs q s.along + occurs q s.against) s states)

module _ (states : List PlaneState) (k : ℕ) (sign : Sign) (lt : k < length states) where
  abbrev there : PlaneState
  there = state_at states k

  abbrev after : List PlaneState
  after = set states k (with_sign sign there)

  pub positives-set : (q : ℕ) → positives q after + occurs q (positive_pairs there) ≡ positives q states + occurs q (positive_pairs (with_sign sign there))
  positives-set q = sum_by-set (λ s. occurs q (positive_pairs s)) states k (with_sign sign there) no_state lt

  pub uses-set : (q : ℕ) → uses q after ≡ uses q states
  uses-set q = let e = sum_by-set (λ s. occurs q s.along + occurs q s.against) states k (with_sign sign there) no_state lt in omega (arith, e)

  module _ (old lost : List PairCount) (is : AreSigned states old) (less : (q : ℕ) → pair_at old q ≡ gained (occurs q (positive_pairs there)) (pair_at lost q)) where
    left : (q : ℕ) → (pair_at lost q).positive + occurs q (positive_pairs there) ≡ positives q states
    left q = sym (ap (λ p. p.positive) (less q)) ∙ is.each q

    pub room : (q : ℕ) → (pair_at lost q).positive + occurs q (positive_pairs (with_sign sign there)) < 65536
    room q = let e = positives-set q in let l = left q in let u = uses-set q in let m = positives-le-uses q after in let f = is.few q in omega (arith, e, l, u, m, f)

    module _ (new : List PairCount) (more : (q : ℕ) → pair_at new q ≡ gained (occurs q (positive_pairs (with_sign sign there))) (pair_at lost q)) (same : length new ≡ length old) where
      pub set_pairs : map emptied new ≡ map emptied old
      set_pairs = ext_get_or no_pair (map emptied new) (map emptied old) (length-map new emptied ∙ same ∙ sym (length-map old emptied))
          (λ q small. get_or-map emptied new q no_pair ∙ ap emptied (more q) ∙ ap emptied (sym (less q)) ∙ sym (get_or-map emptied old q no_pair))

-- ---- the graph

full_le : (p : PairCount) → is_full p ≡ true → p.wanted ≤ p.positive
full_le p h = grind (arith, nat_tests)

le_full : (p : PairCount) → p.wanted ≤ p.positive → is_full p ≡ true
le_full p h = grind (arith, nat_tests)

-- a pair that is counted
found : (x : ℕ) (pairs : List PairCount) → 0 < blocks x pairs → (q : ℕ) × (q < length pairs) × (is_block x (pair_at pairs q) ≡ true)
found x [] h = absurd (omega arith)
found x (p ∷ pairs) h = go (is_block x p) refl (found x pairs) (let e = sum_by-cons (λ r. cond (is_block x r) 1 0) p pairs in omega (arith, e))
  where
    go : (b : Bool) → is_block x p ≡ b → (0 < blocks x pairs → (q : ℕ) × (q < length pairs) × (is_block x (pair_at pairs q) ≡ true)) → 0 < cond (is_block x p) 1 0 + blocks x pairs → (q : ℕ) × (q < length (p ∷ pairs)) × (is_block x (pair_at (p ∷ pairs) q) ≡ true)
    go true e rest lt = (zero, omega arith, e)
    go false e rest lt = let z = ap {B = ℕ} (λ b. cond b 1 0) e in let (q, small, is) = rest (omega (arith, z)) in (suc q, omega (arith, small), is)

is_found : (x : ℕ) (pairs : List PairCount) (q : ℕ) → q < length pairs → is_block x (pair_at pairs q) ≡ true → 0 < blocks x pairs
is_found x pairs q lt e = let le = get_or-le-sum_by (λ r. cond (is_block x r) 1 0) pairs q no_pair lt in let o = ap {B = ℕ} (λ b. cond b 1 0) e in omega (arith, le, o)

pub blocking_is : (now : Signed) (states : List PlaneState) (pairs : List PairCount) → record { states = states; pairs = map emptied pairs } ≡ now → AreSigned states pairs → (x : ℕ) → (0 < blocks x pairs) ↔ ((q : ℕ) × IsBlockingPair now x q)
blocking_is now states pairs view is x = (
  λ h.
      let (q, lt, b) = found x pairs h in
      let t = and_split ((pair_at pairs q).parts == x) (is_full (pair_at pairs q)) b in (
        q,
        subst (λ (s : Signed). IsBlockingPair s x q) view (record {
          within = subst (λ n. q < n) (sym (length-map pairs emptied)) lt;
          parts = ap (λ p. p.parts) (get_or-map emptied pairs q no_pair) ∙ (Decides-eqb (pair_at pairs q).parts x).0 t.0;
          full = subst (λ (p : PairCount). p.wanted ≤ positives q states) (sym (get_or-map emptied pairs q no_pair)) (subst (λ n. (pair_at pairs q).wanted ≤ n) (is.each q) (full_le (pair_at pairs q) t.1));
        }),
      ),
  λ (q, h).
      let k = subst (λ (s : Signed). IsBlockingPair s x q) (sym view) h in
      is_found x pairs q (subst (λ n. q < n) (length-map pairs emptied) k.within)
      (and_from ((pair_at pairs q).parts == x) (is_full (pair_at pairs q)) ((Decides-eqb (pair_at pairs q).parts x).1 (sym (ap (λ p. p.parts) (get_or-map emptied pairs q no_pair)) ∙ k.parts))
      (le_full (pair_at pairs q) (subst (λ n. (pair_at pairs q).wanted ≤ n) (sym (is.each q)) (subst (λ (p : PairCount). p.wanted ≤ positives q states) (get_or-map emptied pairs q no_pair) k.full)))),
)

pub blocking_strong : (now : Signed) (states : List PlaneState) (pairs : List PairCount) (w : PartSet) (b : Bool) → record { states = states; pairs = map emptied pairs } ≡ now → AreSigned states pairs → IsTrue b ↔ IsStrong (HasFullPair pairs) w → IsTrue b ↔ IsStrong (HasBlockingPair now) w
blocking_strong now states pairs w b view is told =
    let same = strong_same (HasFullPair pairs) (HasBlockingPair now) w (λ p q p_in q_in. blocking_is now states pairs view is (parts_at p q)) in
    (λ e. same.0 (told.0 e), λ s. told.1 (same.1 s))

-- ---- the graph of signs has the arcs of the blocking graph among the parts whose planes are linked; and sums over numbers

-- whether the facet is positive where the plane has this sign
abbrev pub is_positive : Sign → Bool → Bool
is_positive Neg turned = turned
is_positive Zero turned = false
is_positive Pos turned = not turned

-- f at each of so many numbers from k on
abbrev pub total : (ℕ → ℕ) → ℕ → ℕ → ℕ
total f k zero = 0
total f k (suc n) = f k + total f (suc k) n

pub total-same : (f g : ℕ → ℕ) (k n : ℕ) → ((j : ℕ) → f j ≡ g j) → total f k n ≡ total g k n
total-same f g k zero h = refl
total-same f g k (suc n) h = λ i. h k i + total-same f g (suc k) n h i

pub total-plus : (f g : ℕ → ℕ) (k n : ℕ) → total (λ j. f j + g j) k n ≡ total f k n + total g k n
total-plus f g k zero = refl
total-plus f g k (suc n) = let r = total-plus f g (suc k) n in omega arith

pub total-zero : (f : ℕ → ℕ) (k n : ℕ) → ((j : ℕ) → k ≤ j → f j ≡ 0) → total f k n ≡ 0
total-zero f k zero h = refl
total-zero f k (suc n) h = let r = total-zero f (suc k) n (λ j le. h j (omega arith)) in let z = h k (omega arith) in omega arith

-- one of the numbers alone counts
pub total-one : (f : ℕ → ℕ) (p k n : ℕ) → k ≤ p → p < k + n → ((j : ℕ) → j ≢ p → f j ≡ 0) → total f k n ≡ f p
total-one f p k zero le lt h = absurd (omega arith)
total-one f p k (suc n) le lt h = ⊎_elim {C = f k + total f (suc k) n ≡ f p}
    (λ e. let z = total-zero f (suc k) n (λ j le. h j (omega arith)) in let v = ap f e in omega arith)
    (λ ne. let r = total-one f p (suc k) n (omega arith) (omega arith) h in let z = h k ne in omega arith)
    (same_or k p)

-- the sum over a list is the sum over its places
pub sum_by-total : {X : Type 0} (f : X → ℕ) (xs : List X) (d : X) → sum_by f xs ≡ total (λ j. f (get_or xs j d)) 0 (length xs)
sum_by-total {X = X} f xs d = go xs
  where
    shift : {X : Type 0} (f : X → ℕ) (x : X) (xs : List X) (d : X) (k n : ℕ) → total (λ j. f (get_or (x ∷ xs) j d)) (suc k) n ≡ total (λ j. f (get_or xs j d)) k n
    shift f x xs d k zero = refl
    shift f x xs d k (suc n) = ap (λ r. f (get_or xs k d) + r) (shift f x xs d (suc k) n)

    go : (xs : List X) → sum_by f xs ≡ total (λ j. f (get_or xs j d)) 0 (length xs)
    go [] = refl
    go (x ∷ xs) = sum_by-cons f x xs ∙ ap (λ n. f x + n) (go xs ∙ sym (shift f x xs d 0 (length xs)))

-- ---- by_plane

abbrev pub hits : Sign → ℕ → List PlaneFacet → ℕ
hits s k by_plane = count_by (λ w. (w.plane == k) && is_positive s w.turned) by_plane

hit_off : (w : PlaneFacet) (k : ℕ) (s : Sign) → k ≢ w.plane → one ((w.plane == k) && is_positive s w.turned) ≡ 0
hit_off w k s ne = ap (λ b. one (b && is_positive s w.turned)) (eq_test_false w.plane k (λ e. ne (sym e)))

-- each facet is counted at its plane
pub total-hits : (sg : ℕ → Sign) (n : ℕ) (by_plane : List PlaneFacet) → All (λ w. w.plane < n) by_plane → total (λ k. hits (sg k) k by_plane) 0 n ≡ count_by (λ w. is_positive (sg w.plane) w.turned) by_plane
total-hits sg n [] h = total-zero (λ k. 0) 0 n (λ j le. refl)
total-hits sg n (w ∷ by_plane) h =
    total-same (λ k. hits (sg k) k (w ∷ by_plane)) (λ k. one ((w.plane == k) && is_positive (sg k) w.turned) + hits (sg k) k by_plane) 0 n (λ k. sum_by-cons (λ w. one ((w.plane == k) && is_positive (sg k) w.turned)) w by_plane)
    ∙ (total-plus (λ k. one ((w.plane == k) && is_positive (sg k) w.turned)) (λ k. hits (sg k) k by_plane) 0 n
    ∙ ((λ i. first i + total-hits sg n by_plane (All-tail (λ w. w.plane < n) w by_plane h) i) ∙ sym (sum_by-cons (λ w. one (is_positive (sg w.plane) w.turned)) w by_plane)))
  where
    first : total (λ k. one ((w.plane == k) && is_positive (sg k) w.turned)) 0 n ≡ one (is_positive (sg w.plane) w.turned)
    first = total-one (λ k. one ((w.plane == k) && is_positive (sg k) w.turned)) w.plane 0 n (omega arith) (let lt = All-get_or (λ w. w.plane < n) (w ∷ by_plane) 0 w (omega arith) h in omega (arith, lt)) (λ j ne. hit_off w j (sg j) ne)
        ∙ ap (λ b. one (b && is_positive (sg w.plane) w.turned)) (eq-eqb w.plane w.plane refl)

-- ---- the count of positive facets is the count of by_plane that are ahead

none_by : (p : PlaneFacet → Bool) (by_plane : List PlaneFacet) → ((w : PlaneFacet) → p w ≡ false) → count_by p by_plane ≡ 0
none_by p [] h = refl
none_by p (w ∷ by_plane) h = let r = none_by p by_plane h in let e = ap one (h w) in omega (arith, r, e, sum_by-cons (λ w. one (p w)) w by_plane)

module _ (planes facets : List V3) (states : List PlaneState) (q : ℕ) (is : IsPairIndexed planes facets states q) where
  abbrev sg : ℕ → Sign
  sg k = (state_at states k).sign

  by_sign : (s : Sign) (k : ℕ) → occurs q (pairs_by s (state_at states k).along (state_at states k).against) ≡ hits s k is.by_plane
  by_sign Neg k = is.against k
  by_sign Zero k = sym (none_by (λ w. (w.plane == k) && false) is.by_plane (λ w. and_false (w.plane == k)))
  by_sign Pos k = is.along k

  pub positives-by_plane : length states ≡ length planes → positives q states ≡ count_by (λ w. is_positive (sg w.plane) w.turned) is.by_plane
  positives-by_plane e =
      sum_by-total (λ s. occurs q (positive_pairs s)) states no_state
      ∙ (total-same (λ k. occurs q (positive_pairs (state_at states k))) (λ k. hits (sg k) k is.by_plane) 0 (length states) (λ k. by_sign (sg k) k)
      ∙ total-hits sg (length states) is.by_plane (subst (λ n. All (λ w. w.plane < n) is.by_plane) (sym e) is.within))

-- a number in no list has no positive facet
pub positives-none : (states : List PlaneState) (q : ℕ) → ((k : ℕ) → occurs q (state_at states k).along ≡ 0) → ((k : ℕ) → occurs q (state_at states k).against ≡ 0) → positives q states ≡ 0
positives-none states q along against = sum_by-total (λ s. occurs q (positive_pairs s)) states no_state ∙ total-zero (λ k. occurs q (positive_pairs (state_at states k))) 0 (length states) (λ k le. by_sign (state_at states k).sign k)
  where
    by_sign : (s : Sign) (k : ℕ) → occurs q (pairs_by s (state_at states k).along (state_at states k).against) ≡ 0
    by_sign Neg k = against k
    by_sign Zero k = refl
    by_sign Pos k = along k

-- ---- all are counted

all_counted : {X : Type 0} (p : X → Bool) (xs : List X) → (length xs ≤ count_by p xs) ↔ ((x : X) → Contains xs x → p x ≡ true)
all_counted p [] = (λ h x c. absurd (Contains-nothing x c), λ h. omega arith)
all_counted {X = X} p (v ∷ xs) = by (p v) refl (all_counted p xs)
  where
    by : (b : Bool) → p v ≡ b → (length xs ≤ count_by p xs) ↔ ((x : X) → Contains xs x → p x ≡ true) → (length (v ∷ xs) ≤ count_by p (v ∷ xs)) ↔ ((x : X) → Contains (v ∷ xs) x → p x ≡ true)
    by true e (to, from) =
        let o = ap one e in
        let s = sum_by-cons (λ x. one (p x)) v xs in
        (λ h x c. ⊎_elim {C = p x ≡ true} (λ q. ap p q ∙ e) (to (omega (arith, o, h, s)) x) (Contains-cases v xs x c), λ h. let l = from (λ x c. h x (Contains-later v xs x c)) in omega (arith, o, l, s))
    by false e ih = (
      λ h. absurd (let o = ap one e in let l = count_by-le-length p xs in omega (arith, o, h, l, sum_by-cons (λ x. one (p x)) v xs)),
      λ h. absurd (false_true_clash (p v) e (h v (Contains-front v xs))),
    )

-- the count of what f makes of them
count_by-map : {X Y : Type 0} (p : X → Bool) (g : Y → Bool) (f : X → Y) (xs : List X) → ((x : X) → Contains xs x → p x ≡ g (f x)) → count_by p xs ≡ count_by g (map f xs)
count_by-map p g f [] h = refl
count_by-map p g f (v ∷ xs) h =
    let o = ap one (h v (zero, omega arith, refl)) in
    let r = count_by-map p g f xs (λ x c. h x (suc c.0, omega (arith, c.1), c.2)) in
    let s = sum_by-cons (λ x. one (p x)) v xs in
    let t = sum_by-cons (λ y. one (g y)) (f v) (map f xs) in
    omega (arith, o, r, s, t)

-- ---- signs and facets

from_test : (z : ℤ) → int_lt (pos 0) z ≡ true → pos 0 <ℤ z
from_test z e = record { lt = subst T (sym e) tt }

sign_tells : (z : ℤ) (turned : Bool) → is_positive (sign z) turned ≡ int_lt (pos 0) (cond turned (neg_ℤ z) z)
sign_tells (pos zero) false = refl
sign_tells (pos zero) true = refl
sign_tells (pos (suc n)) false = grind (arith, ints)
sign_tells (pos (suc n)) true = refl
sign_tells (negsuc n) false = refl
sign_tells (negsuc n) true = grind (arith, ints)

facet_dot : (turned : Bool) (n v : V3) → dot (facet_by turned n) v ≡ cond turned (neg_ℤ (dot n v)) (dot n v)
facet_dot false n v = refl
facet_dot true n v = negative_dot n v

-- the plane of a facet
facet_plane : (turned : Bool) (n : V3) → IsCanon n → n ≡ canon (facet_by turned n)
facet_plane false n c = canon-only n n c (inl refl)
facet_plane true n c = canon-only (negative n) n c (inr (sym (negative-negative n)))

module _ (parts : List Part) (t : Table) (s : Signed) (linked : List ℕ) (v : V3) (w : PartSet) (made : WasMadeFrom parts t) (table : IsTable t) (to : BelongTo t s) (signs : HoldSigns t.planes linked s v) (within : IsSubset w t.of) (whole : HasAll parts w t.planes linked) where
  module _ (arc : Arc) (across : IsTableArc t arc) (a_in : Has w arc.a) (b_in : Has w arc.b) where
    abbrev q : ℕ
    q = slot t.pieces arc

    is : IsPairOf t s arc
    is = to.all arc across

    -- the plane of such a facet is linked
    linked_is : (x : PlaneFacet) → Contains is.index.by_plane x → IsLinked t.planes linked x.plane (plane_at t.planes x.plane)
    linked_is x c =
        let lt : x.plane < length t.planes = All-contains (λ x. x.plane < length t.planes) is.index.by_plane x is.index.within c in
        let n : V3 = plane_at t.planes x.plane in
        let at : slice_get t.planes x.plane ≡ Some n = slice_get-get_or t.planes x.plane origin lt in
        let normal : IsPlaneNormal n = All-get_or IsPlaneNormal t.planes x.plane origin lt table.planes.each in
        let f : V3 = facet_by x.turned n in
        let listed : Contains (facets_of t arc) f = subst (λ fs. Contains fs f) is.index.are (Contains-map (facet_at t.planes) is.index.by_plane x c) in
        let h = made.facets arc across in
        record {
          listed = whole x.plane n at (inr (record {
            arc = arc;
            facet = f;
            a_in = a_in;
            b_in = b_in;
            different = across.different;
            holds = record { p = h.p; q = h.q; p_is = h.p_is; q_is = h.q_is; holds = h.holds.each f listed };
            is = facet_plane x.turned n normal.canonical;
          }));
          is = at;
        }

    abbrev facets : List V3
    facets = facets_of t arc

    test_is : (x : PlaneFacet) → Contains is.index.by_plane x → is_positive (state_at s.states x.plane).sign x.turned ≡ int_lt (pos 0) (dot (facet_at t.planes x) v)
    test_is x c =
        let n : V3 = plane_at t.planes x.plane in
        ap (λ g. is_positive g x.turned) (signs x.plane n (linked_is x c))
        ∙ (sign_tells (dot n v) x.turned ∙ ap (int_lt (pos 0)) (sym (facet_dot x.turned n v)))

    count : positives q s.states ≡ positive_at v facets
    count =
        positives-by_plane t.planes facets s.states q is.index to.states
        ∙ (count_by-map (λ x. is_positive (state_at s.states x.plane).sign x.turned) (λ n. int_lt (pos 0) (dot n v)) (facet_at t.planes) is.index.by_plane test_is
        ∙ ap (positive_at v) is.index.are)

    ahead_of_full : length facets ≤ positives q s.states → (n : V3) → Contains facets n → pos 0 <ℤ dot n v
    ahead_of_full le n c = from_test (dot n v) ((all_counted (λ n. int_lt (pos 0) (dot n v)) facets).0 (let e = count in omega (arith, e, le)) n c)

    full_of_ahead : ((n : V3) → Contains facets n → pos 0 <ℤ dot n v) → positives q s.states ≡ length facets
    full_of_ahead all =
        let most = count_by-le-length (λ n. int_lt (pos 0) (dot n v)) facets in
        let full = (all_counted (λ n. int_lt (pos 0) (dot n v)) facets).1 (λ n c. let h = all n c in grind (arith, ints, h)) in
        let e = count in omega (arith, e, most, full)

    pub full_says : (length facets ≤ positives q s.states) ↔ All (λ n. pos 0 <ℤ dot n v) facets
    full_says = (
      λ le. All-from_members (λ n. pos 0 <ℤ dot n v) facets (ahead_of_full le),
      λ all. (let e = full_of_ahead (λ n c. All-contains (λ n. pos 0 <ℤ dot n v) facets n all c) in omega (arith, e)),
    )

    pub is_counted : IsCountedAt v t s arc
    is_counted = record {
      count = count;
      blocks = (
        λ b. (let w = is.wanted in let f = b.full in let e = count in let l = count_by-le-length (λ n. int_lt (pos 0) (dot n v)) facets in omega (arith, w, f, e, l)),
        λ e. record { within = is.within; parts = is.parts; full = (let w = is.wanted in let k = count in omega (arith, w, k, e)) },
      );
    }

  -- an arc stands for some pair of pieces that blocks, and the other way round
  module _ (a b : ℕ) (a_in : Has w a) (b_in : Has w b) where
    blocked : (q : ℕ) → IsBlockingPair s (parts_at a b) q → IsAhead t v a b
    blocked q h = ⊎_elim by_arc unused (to.only q h.within)
      where
        parts_apart : (x y c d : ℕ) → y < 32 → d < 32 → parts_at x y ≡ parts_at c d → (x ≡ c) × (y ≡ d)
        parts_apart x y c d p q e = (omega arith, omega arith)

        by_arc : ((arc : Arc) × IsTableArc t arc × (slot t.pieces arc ≡ q)) → IsAhead t v a b
        by_arc (arc, across, e) =
            let pair = to.all arc across in
            let same = parts_apart arc.a arc.b a b (table.small arc.b across.b_in) (table.small b (within b b_in)) (sym pair.parts ∙ (ap (λ k. (pair_at s.pairs k).parts) e ∙ h.parts)) in
            let full : length (facets_of t arc) ≤ positives (slot t.pieces arc) s.states = subst (λ n. n ≤ positives (slot t.pieces arc) s.states) pair.wanted (subst (λ k. (pair_at s.pairs k).wanted ≤ positives k s.states) (sym e) h.full) in
            let all = ahead_of_full arc across (subst (Has w) (sym same.0) a_in) (subst (Has w) (sym same.1) b_in) full in
            let turned : Arc = record { a = a; i = arc.i; b = b; j = arc.j } in
            let is : arc ≡ turned = λ i. record { a = same.0 i; i = arc.i; b = same.1 i; j = arc.j } in
            record { i = arc.i; j = arc.j; across = subst (IsTableArc t) is across; ahead = All-from_members (λ n. pos 0 <ℤ dot n v) (facets_of t turned) (subst (λ (r : Arc). (n : V3) → Contains (facets_of t r) n → pos 0 <ℤ dot n v) is all) }

        unused : IsUnused s q → IsAhead t v a b
        unused u =
            let z = positives-none s.states q u.along u.against in
            let f = h.full in
            let o = u.wanted in
            absurd (omega (arith, z, f, o))

    blocks_of : IsAhead t v a b → HasBlockingPair s a b
    blocks_of h =
        let arc : Arc = record { a = a; i = h.i; b = b; j = h.j } in
        let pair = to.all arc h.across in
        let e = full_of_ahead arc h.across a_in b_in (λ n c. All-contains (λ n. pos 0 <ℤ dot n v) (facets_of t arc) n h.ahead c) in
        (slot t.pieces arc, record { within = pair.within; parts = pair.parts; full = (let g = pair.wanted in omega (arith, g, e)) })

  pub pairs_block : (a b : ℕ) → Has w a → Has w b → HasBlockingPair s a b ↔ Blocks parts v a b
  pairs_block a b a_in b_in =
      let arcs = ahead_is_blocking parts t v a b made in (
        λ h. let (q, is) = h in (arcs.0 (blocked a b a_in b_in q is)).blocks,
        λ h. blocks_of a b a_in b_in (arcs.1 (record { a_in = within a a_in; b_in = within b b_in; blocks = h })),
      )

  pub shows_blocking : (rows : List ℕ) → ((a b : ℕ) → a < 32 → b < 32 → HasArc rows a b ↔ HasBlockingPair s a b) → ShowsBlocking parts v w rows
  shows_blocking rows told a b a_in b_in =
      let law = told a b (table.small a (within a a_in)) (table.small b (within b b_in)) in
      let pairs = pairs_block a b a_in b_in in
      (λ h. pairs.0 (law.0 h), λ h. law.1 (pairs.1 h))

  pub strong_blocking : IsStrong (HasBlockingPair s) w ↔ IsStrong (Blocks parts v) w
  strong_blocking = strong_same (HasBlockingPair s) (Blocks parts v) w pairs_block
