-- The facets of a pair are put down one after another, and the numbers of pairs are told one after another.
use Rattle.std.proofs.Common.{rules, ◌≡◌, ⊎_elim, ℕ, zero, suc, ◌+◌, ◌<◌, arith, ap, ◌∙◌, refl, List, [], ◌∷◌, ◌++◌, length, set, All, eq-eqb, ◌≢◌, ◌*◌, ◌≤◌, sym, subst, take, length-set, get_or-set_same, get_or-set_other, ◌⊎◌, inl, inr, ◌/◌, ◌%◌, get_or}
use Rattle.std.proofs.lemmas.Grind.{common_steps}
use Rattle.std.proofs.lemmas.Bool.Decides.{nat_tests}
use Rattle.std.specs.Prelude.{◌==◌, Bool, true, false, map, replicate, ◌&&◌, not, Result, Ok, Err, OnOk, Some, slice_get, sum}
use Rattle.std.proofs.lemmas.List.{map-set, length-map, length-take, map_push, length-replicate, take-take}
use Rattle.std.proofs.lemmas.List.Elements.{All-set, All-get_or, All-append, All-cons, All-nil}
use Rattle.std.proofs.lemmas.List.Sums.{sum_by-set, sum_by_push, sum_by-cons, sum_by-take-le, sum_by_more}
use Rattle.staat_vec.specs.declared.vector.Sign.{Sign}
use Rattle.staat_vec.specs.declared.vector.Sign.TheVariants.{Neg, Zero, Pos}
use Rattle.staat_ring.specs.declared.pairs.PairCount.{PairCount}
use Rattle.staat_ring.specs.Pairs.{fresh, no_pair, occurs, pair_at}
use Rattle.staat_ring.specs.CountedSigns.{PlaneState, Signed, no_state, pairs_by, positives, state_at}
use Rattle.staat_ring.specs.SignChanges.{AreSigned, uses, emptied, with_pair}
use Rattle.staat_ring.proofs.ArcLaw.{one, at_replicate, is_positive, hits, sum_by-total, total-hits, total-plus, total-same, positives-none}
use Rattle.staat_vec.proofs.Naturals.{eq_test_false, same_or, add_none, parts_by_64, lt_one_more_cases, same_parts_of_64}
use Rattle.std.specs.List.{count_by}
use Rattle.staat_vec.specs.declared.vector.V3.{V3}
use Rattle.staat_vec.specs.Primitives.{canon}
use Rattle.staat_vec.specs.Vectors.{negative}
use Rattle.staat_vec.proofs.Canons.{canon-either, negative-negative}
use Rattle.staat_model.specs.declared.certificate.Arc.{Arc}
use Rattle.staat_pairs.specs.Tables.{Table, facets_of, slot, IsTableArc, IsTable, pieces_of, place}
use Rattle.staat_vec.proofs.ListLaws.{take_next}
use Rattle.staat_ring.specs.BlockCounts.{parts_at}
use Rattle.staat_ring.specs.Index.{AreSameBut, AreZero, IsFresh, IsPairKept, with_facet, AreToldBelow, IsTold}
use Rattle.staat_ring.specs.Belonging.{IsPairIndexed, PlaneFacet, facet_at, BelongTo, IsPairOf, IsUnused}
use Rattle.staat_ring.specs.Rings.{facet_by}
use Rattle.staat_vec.proofs.Truth.{and_true}
use Rattle.staat_pairs.specs.Tabulating.{IsPieceAt}
use Rattle.staat_pairs.proofs.NumberingLemmas.{below_64, one_number, one_part}
use Rattle.staat_pairs.proofs.TableLemmas.{has_place}

pub want_value : (now : Signed) (states : List PlaneState) (counts new : List PairCount) (q wanted parts : ℕ) → record { states = states; pairs = map emptied counts } ≡ now → new ≡ set counts q (fresh wanted parts)
    → ◌≡◌ {A = Signed} (record { states = states; pairs = map emptied new }) (record { states = now.states; pairs = set now.pairs q (fresh wanted parts) })
want_value now states counts new q wanted parts view e =
    (λ i. record { states = states; pairs = map emptied (e i) }) ∙ ((λ i. record { states = states; pairs = map-set emptied counts q (fresh wanted parts) i }) ∙ (λ i. record { states = (view i).states; pairs = set (view i).pairs q (fresh wanted parts) }))

-- ---- a facet is put down

zero_pairs : (s : Sign) (along against : List ℕ) → s ≡ Zero → pairs_by s along against ≡ []
zero_pairs Neg along against e = cc
zero_pairs Zero along against e = refl
zero_pairs Pos along against e = cc

pub occurs-push : (p q : ℕ) (qs : List ℕ) → occurs p (qs ++ q ∷ []) ≡ occurs p qs + one (q == p)
occurs-push p q qs = sum_by_push (λ x. one (x == p)) qs q

pub sign_with : (turned : Bool) (q : ℕ) (s : PlaneState) → (with_pair turned q s).sign ≡ s.sign
sign_with false q s = refl
sign_with true q s = refl

no_more : (q p : ℕ) (a b room : ℕ) → a ≡ b + one (q == p) → (q ≡ p → b + 1 < room) → b < room → a < room
no_more q p a b room e h g = ⊎_elim {C = a < room} (λ is. let o = ap one (eq-eqb q p is) in let r = h is in omega (arith, e, o, r)) (λ ne. let o = ap one (eq_test_false q p ne) in omega (arith, e, o, g)) (same_or q p)

all_with_along : (n q : ℕ) (turned : Bool) (s : PlaneState) → q < n → All (λ p. p < n) s.along → All (λ p. p < n) (with_pair turned q s).along
all_with_along n q false s lt h = All-append (λ p. p < n) s.along (q ∷ []) h (All-cons (λ p. p < n) q [] lt (All-nil (λ p. p < n)))
all_with_along n q true s lt h = h

all_with_against : (n q : ℕ) (turned : Bool) (s : PlaneState) → q < n → All (λ p. p < n) s.against → All (λ p. p < n) (with_pair turned q s).against
all_with_against n q true s lt h = All-append (λ p. p < n) s.against (q ∷ []) h (All-cons (λ p. p < n) q [] lt (All-nil (λ p. p < n)))
all_with_against n q false s lt h = h

module _ (states : List PlaneState) (counts : List PairCount) (k q : ℕ) (turned : Bool) (is : AreSigned states counts) (lt : k < length states) (zero : (state_at states k).sign ≡ Zero) (small : q < length counts) (room : uses q states + 1 < 65536) where
  abbrev here : PlaneState
  here = state_at states k

  abbrev there : PlaneState
  there = with_pair turned q here

  abbrev after : List PlaneState
  after = set states k there

  positives-after : (p : ℕ) → positives p after ≡ positives p states
  positives-after p = search (rules, sum_by-set, zero_pairs, sign_with)

  pub push_signed : AreSigned after counts
  push_signed = grind (arith, common_steps, nat_tests, All-set, All-get_or, no_more, all_with_along, all_with_against, positives-after)

pub start_value : (states : List PlaneState) (counts : List PairCount) (n m : ℕ) → states ≡ replicate n no_state → counts ≡ replicate m no_pair → ◌≡◌ {A = Signed} (record { states = states; pairs = map emptied counts }) (record { states = replicate n no_state; pairs = replicate m no_pair })
start_value states counts n m e f = λ i. record { states = e i; pairs = (ap (map emptied) f ∙ same m) i }
  where
    same : (m : ℕ) → map emptied (replicate m no_pair) ≡ replicate m no_pair
    same zero = refl
    same (suc m) = ap (λ r. no_pair ∷ r) (same m)

-- of the facets of pair q so many are put down
pub record IsPartly (planes facets : List V3) (first s : Signed) (q m : ℕ) : Type 0 where
  pub index : IsPairIndexed planes (take m facets) s.states q
  pub states : length s.states ≡ length first.states
  pub pairs : s.pairs ≡ first.pairs
  pub zero : AreZero s
  pub others : (p : ℕ) → p ≢ q → IsPairKept first s p

-- a facet by its plane and sense
pub plane_facet_is : (facet n : V3) (turned : Bool) → n ≡ canon facet → (turned ≡ true → n ≢ facet) → (turned ≡ false → n ≡ facet) → facet_by turned n ≡ facet
plane_facet_is facet n false e t f = f refl
plane_facet_is facet n true e t f = ⊎_elim {C = negative n ≡ facet} (λ same. absurd (t refl (e ∙ same))) (λ turned. ap negative (e ∙ turned) ∙ negative-negative facet) (canon-either facet)

-- ---- one facet more

pub plus_none : (n : ℕ) (b : Bool) → n ≡ n + one (b && false)
plus_none n true = omega arith
plus_none n false = omega arith

along_with : (p q : ℕ) (turned : Bool) (s : PlaneState) → occurs p (with_pair turned q s).along ≡ occurs p s.along + one ((q == p) && not turned)
along_with p q false s = occurs-push p q s.along ∙ ap (λ b. occurs p s.along + one b) (sym (and_true (q == p)))
along_with p q true s = plus_none (occurs p s.along) (q == p)

against_with : (p q : ℕ) (turned : Bool) (s : PlaneState) → occurs p (with_pair turned q s).against ≡ occurs p s.against + one ((q == p) && turned)
against_with p q true s = occurs-push p q s.against ∙ ap (λ b. occurs p s.against + one b) (sym (and_true (q == p)))
against_with p q false s = plus_none (occurs p s.against) (q == p)

module _ (s : Signed) (w : PlaneFacet) (q : ℕ) (lt : w.plane < length s.states) where
  abbrev new : Signed
  new = with_facet w q s

  at_plane : state_at new.states w.plane ≡ with_pair w.turned q (state_at s.states w.plane)
  at_plane = get_or-set_same s.states w.plane (with_pair w.turned q (state_at s.states w.plane)) no_state lt

  elsewhere : (k : ℕ) → k ≢ w.plane → state_at new.states k ≡ state_at s.states k
  elsewhere k ne = get_or-set_other s.states w.plane k (with_pair w.turned q (state_at s.states w.plane)) no_state ne

  pub along_after : (p k : ℕ) → occurs p (state_at new.states k).along ≡ occurs p (state_at s.states k).along + one ((w.plane == k) && ((q == p) && not w.turned))
  along_after p k = search (rules, ⊎_elim, eq-eqb, one, add_none, same_or, eq_test_false, along_with, at_plane, elsewhere)

  pub against_after : (p k : ℕ) → occurs p (state_at new.states k).against ≡ occurs p (state_at s.states k).against + one ((w.plane == k) && ((q == p) && w.turned))
  against_after p k = search (rules, ⊎_elim, eq-eqb, one, add_none, same_or, eq_test_false, against_with, at_plane, elsewhere)

  pub zero_after : AreZero s → AreZero new
  zero_after z k = ⊎_elim {C = (state_at new.states k).sign ≡ Zero} (λ e. subst (λ k. (state_at new.states k).sign ≡ Zero) (sym e) (ap (λ x. x.sign) at_plane ∙ (sign_with w.turned q (state_at s.states w.plane) ∙ z w.plane))) (λ ne. ap (λ x. x.sign) (elsewhere k ne) ∙ z k) (same_or k w.plane)

  -- other pairs keep theirs
  pub others_after : (p : ℕ) → p ≢ q → IsPairKept s new p
  others_after p ne = grind (arith, common_steps, nat_tests, one, eq_test_false, along_after, against_after)

pub same_at_trans : (s u v : Signed) (p : ℕ) → IsPairKept s u p → IsPairKept u v p → IsPairKept s v p
same_at_trans s u v p a b = record { pair = b.pair ∙ a.pair; along = λ k. b.along k ∙ a.along k; against = λ k. b.against k ∙ a.against k }

-- ---- how many uses

halves : (by_plane : List PlaneFacet) → count_by (λ w. is_positive Pos w.turned) by_plane + count_by (λ w. is_positive Neg w.turned) by_plane ≡ length by_plane
halves [] = refl
halves (w ∷ by_plane) = let r = halves by_plane in let o = split w.turned in omega (arith, r, o, sum_by-cons (λ w. one (is_positive Pos w.turned)) w by_plane, sum_by-cons (λ w. one (is_positive Neg w.turned)) w by_plane)
  where
    split : (b : Bool) → one (not b) + one b ≡ 1
    split true = refl
    split false = refl

pub uses-by_plane : (planes facets : List V3) (states : List PlaneState) (q : ℕ) (is : IsPairIndexed planes facets states q) → length states ≡ length planes → uses q states ≡ length is.by_plane
uses-by_plane planes facets states q is e =
    sum_by-total (λ s. occurs q s.along + occurs q s.against) states no_state
    ∙ (total-same (λ k. occurs q (state_at states k).along + occurs q (state_at states k).against) (λ k. hits Pos k is.by_plane + hits Neg k is.by_plane) 0 (length states) (λ k. (λ i. is.along k i + is.against k i))
    ∙ (total-plus (λ k. hits Pos k is.by_plane) (λ k. hits Neg k is.by_plane) 0 (length states)
    ∙ ((λ i. total-hits (λ _. Pos) (length states) is.by_plane within i + total-hits (λ _. Neg) (length states) is.by_plane within i) ∙ halves is.by_plane)))
  where
    within : All (λ w. w.plane < length states) is.by_plane
    within = subst (λ n. All (λ w. w.plane < n) is.by_plane) (sym e) is.within

-- ---- the steps of the loop

fresh_index : (planes facets : List V3) (states : List PlaneState) (q : ℕ) → ((k : ℕ) → occurs q (state_at states k).along ≡ 0) → ((k : ℕ) → occurs q (state_at states k).against ≡ 0) → IsPairIndexed planes (take 0 facets) states q
fresh_index planes facets states q a b = record { by_plane = []; are = refl; within = All-nil (λ w. w.plane < length planes); along = a; against = b }

pub partly_start : (planes facets : List V3) (s : Signed) (q : ℕ) → AreZero s → ((k : ℕ) → occurs q (state_at s.states k).along ≡ 0) → ((k : ℕ) → occurs q (state_at s.states k).against ≡ 0) → IsPartly planes facets s s q 0
partly_start planes facets s q z a b = search (rules, fresh_index)

pub partly_more : (planes facets : List V3) (first s more : Signed) (q m : ℕ) (facet : V3) (w : PlaneFacet) → length s.states ≡ length planes → slice_get facets m ≡ Some facet → w.plane < length planes → facet_at planes w ≡ facet → more ≡ with_facet w q s → IsPartly planes facets first s q m → IsPartly planes facets first more q (m + 1)
partly_more planes facets first s more q m facet w size at lt is e p = subst (λ (u : Signed). IsPartly planes facets first u q (m + 1)) (sym e) (record {
  index = record {
    by_plane = p.index.by_plane ++ w ∷ [];
    are = map_push (facet_at planes) p.index.by_plane w ∙ ((λ i. p.index.are i ++ is i ∷ []) ∙ sym (take_next facets m facet at));
    within = All-append (λ w. w.plane < length planes) p.index.by_plane (w ∷ []) p.index.within (All-cons (λ w. w.plane < length planes) w [] lt (All-nil (λ w. w.plane < length planes)));
    along = λ k. along_after s w q small q k ∙ ((λ i. p.index.along k i + one ((w.plane == k) && (own i && not w.turned))) ∙ sym (sum_by_push (λ w. one ((w.plane == k) && not w.turned)) p.index.by_plane w));
    against = λ k. against_after s w q small q k ∙ ((λ i. p.index.against k i + one ((w.plane == k) && (own i && w.turned))) ∙ sym (sum_by_push (λ w. one ((w.plane == k) && w.turned)) p.index.by_plane w));
  };
  states = length-set s.states w.plane (with_pair w.turned q (state_at s.states w.plane)) ∙ p.states;
  pairs = p.pairs;
  zero = zero_after s w q small p.zero;
  others = λ x ne. same_at_trans first s (with_facet w q s) x (p.others x ne) (others_after s w q small x ne);
})
  where
    small : w.plane < length s.states
    small = subst (λ n. w.plane < n) (sym size) lt

    own : (q == q) ≡ true
    own = eq-eqb q q refl

pub no_positives : (s : Signed) (q : ℕ) → IsFresh s q → positives q s.states ≡ 0
no_positives s q f = positives-none s.states q f.along f.against

pub partly_room : (planes facets : List V3) (first s : Signed) (q m n : ℕ) → length s.states ≡ length planes → length facets ≤ 2 * n → n ≤ 1024 → IsPartly planes facets first s q m → uses q s.states + 1 < 65536
partly_room planes facets first s q m n size few small p =
    let u = uses-by_plane planes (take m facets) s.states q p.index size in
    let e = ap length p.index.are in
    let l = length-map p.index.by_plane (facet_at planes) in
    omega (arith, u, e, l, length-take m facets, few, small)

-- ---- the pair of an arc is told

pub told_start : (planes facets : List V3) (s told : Signed) (q wanted parts : ℕ) → told ≡ record { states = s.states; pairs = set s.pairs q (fresh wanted parts) } → AreZero s → IsFresh s q → IsPartly planes facets told told q 0
told_start planes facets s told q wanted parts e z f = partly_start planes facets told q
    (λ k. ap (λ (u : Signed). (state_at u.states k).sign) e ∙ z k) (λ k. ap (λ (u : Signed). occurs q (state_at u.states k).along) e ∙ f.along k) (λ k. ap (λ (u : Signed). occurs q (state_at u.states k).against) e ∙ f.against k)

module _ (t : Table) (arc : Arc) (s told new : Signed) (q wanted parts m : ℕ) (told_is : told ≡ record { states = s.states; pairs = set s.pairs q (fresh wanted parts) }) (at : slot t.pieces arc ≡ q) (lt : q < length s.pairs)
    (count : wanted ≡ length (facets_of t arc)) (parts_is : parts ≡ parts_at arc.a arc.b) (whole : length (facets_of t arc) ≤ m) (p : IsPartly t.planes (facets_of t arc) told new q m) where
  pairs_are : new.pairs ≡ set s.pairs q (fresh wanted parts)
  pairs_are = p.pairs ∙ ap (λ (u : Signed). u.pairs) told_is

  pub same_but : AreSameBut s new q
  same_but = record {
    states = p.states ∙ ap (λ (u : Signed). length u.states) told_is;
    pairs = ap length pairs_are ∙ length-set s.pairs q (fresh wanted parts);
    zero = p.zero;
    others = λ x ne. record {
      pair = ap (λ ps. pair_at ps x) pairs_are ∙ get_or-set_other s.pairs q x (fresh wanted parts) no_pair ne;
      along = λ k. (p.others x ne).along k ∙ ap (λ (u : Signed). occurs x (state_at u.states k).along) told_is;
      against = λ k. (p.others x ne).against k ∙ ap (λ (u : Signed). occurs x (state_at u.states k).against) told_is;
    };
  }

-- ---- what stays

unused_of : (s : Signed) (q : ℕ) → IsFresh s q → IsUnused s q
unused_of s q f = record { wanted = (let e = ap (λ p. p.wanted) f.pair in omega (arith, e)); along = f.along; against = f.against }

fresh_same : (s u : Signed) (q : ℕ) → IsPairKept s u q → IsFresh s q → IsFresh u q
fresh_same s u q same f = record { pair = same.pair ∙ f.pair; along = λ k. same.along k ∙ f.along k; against = λ k. same.against k ∙ f.against k }

unused_same : (s u : Signed) (q : ℕ) → IsPairKept s u q → IsUnused s q → IsUnused u q
unused_same s u q same f = record { wanted = (let e = ap (λ p. p.wanted) same.pair in let w = f.wanted in omega (arith, e, w)); along = λ k. same.along k ∙ f.along k; against = λ k. same.against k ∙ f.against k }

pair_same : (t : Table) (s u : Signed) (arc : Arc) → length u.pairs ≡ length s.pairs → IsPairKept s u (slot t.pieces arc) → IsPairOf t s arc → IsPairOf t u arc
pair_same t s u arc size same p = search (rules)

told_same : (t : Table) (s u : Signed) (q : ℕ) → length u.pairs ≡ length s.pairs → IsPairKept s u q → IsTold t s q → IsTold t u q
told_same t s u q size same (inl (arc, across, e, p)) = inl (arc, across, e, pair_same t s u arc size (subst (IsPairKept s u) (sym e) same) p)
told_same t s u q size same (inr (f, none)) = inr (unused_same s u q same f, none)

-- ---- one number more

pub no_pair_here : (t : Table) (s : Signed) (q : ℕ) → AreToldBelow t s q → ((arc : Arc) → IsTableArc t arc → slot t.pieces arc ≡ q → ⊥) → AreToldBelow t s (q + 1)
no_pair_here t s q told none = record {
  states = told.states;
  pairs = told.pairs;
  zero = told.zero;
  told = λ p lt. ⊎_elim {C = IsTold t s p} (λ before. told.told p before) (λ e. subst (IsTold t s) (sym e) (inr (unused_of s q (told.rest q (omega arith)), none))) (lt_one_more_cases p q lt);
  rest = λ p le. told.rest p (omega (arith, le));
}

pub pair_here : (t : Table) (s u : Signed) (q : ℕ) (arc : Arc) → AreToldBelow t s q → IsTableArc t arc → slot t.pieces arc ≡ q → IsPairOf t u arc → AreSameBut s u q → AreToldBelow t u (q + 1)
pair_here t s u q arc told across at pair same = record {
  states = same.states ∙ told.states;
  pairs = same.pairs ∙ told.pairs;
  zero = same.zero;
  told = λ p lt. ⊎_elim {C = IsTold t u p} (λ before. told_same t s u p same.pairs (same.others p (λ e. absurd (omega (arith, e, before)))) (told.told p before)) (λ e. subst (IsTold t u) (sym e) (inl (arc, across, at, pair))) (lt_one_more_cases p q lt);
  rest = λ p le. fresh_same s u p (same.others p (λ e. absurd (omega (arith, e, le)))) (told.rest p (omega (arith, le)));
}

pub both_ok : {X E : Type 0} (r : Result X E) (P Q R : Type 0) → OnOk r P → OnOk r Q → (P → Q → R) → OnOk r R
both_ok (Ok x) P Q R h g f = f h g
both_ok (Err e) P Q R h g f = tt

-- ---- numbers and pieces

module _ (t : Table) (rules : IsTable t) where
  piece_at : (a i : ℕ) → Rattle.staat_model.specs.Sets.Has t.of a → i < pieces_of t a → IsPieceAt t.pieces (place t.pieces a i) a i
  piece_at a i ha lt = record { small = rules.small a ha; there = lt; is = refl }

  below : (a i : ℕ) → i < pieces_of t a → place t.pieces a i < 64
  below a i lt = below_64 t.pieces a i rules.most lt

  same_part : (a i b j : ℕ) → Rattle.staat_model.specs.Sets.Has t.of a → i < pieces_of t a → Rattle.staat_model.specs.Sets.Has t.of b → j < pieces_of t b → place t.pieces a i ≡ place t.pieces b j → (a ≡ b) × (i ≡ j)
  same_part a i b j ha la hb lb e =
      let p = piece_at a i ha la in
      let q : IsPieceAt t.pieces (place t.pieces a i) b j = record { small = rules.small b hb; there = lb; is = sym e } in
      let ab : a ≡ b = one_part t.pieces (place t.pieces a i) a b i j p q in
      (ab, one_number t.pieces (place t.pieces a i) b i j (subst (λ c. IsPieceAt t.pieces (place t.pieces a i) c i) ab p) q)

  -- two pieces of one part are no pair
  pub one_part_no_pair : (a i b j q : ℕ) → Rattle.staat_model.specs.Sets.Has t.of a → i < pieces_of t a → Rattle.staat_model.specs.Sets.Has t.of b → j < pieces_of t b → 64 * place t.pieces a i + place t.pieces b j ≡ q → a ≡ b → (arc : Arc) → IsTableArc t arc → slot t.pieces arc ≡ q → ⊥
  one_part_no_pair a i b j q ha la hb lb at e arc across sl =
      let both = same_parts_of_64 (place t.pieces arc.a arc.i) (place t.pieces arc.b arc.j) (place t.pieces a i) (place t.pieces b j) (below arc.b arc.j across.j_is) (below b j lb) (sl ∙ sym at) in
      let x = same_part arc.a arc.i a i across.a_in across.i_is ha la both.0 in
      let y = same_part arc.b arc.j b j across.b_in across.j_is hb lb both.1 in
      across.different (x.0 ∙ (e ∙ sym y.0))

  pub one_arc : (x y : Arc) → IsTableArc t x → IsTableArc t y → slot t.pieces x ≡ slot t.pieces y → x ≡ y
  one_arc x y p q e =
      let both = same_parts_of_64 (place t.pieces x.a x.i) (place t.pieces x.b x.j) (place t.pieces y.a y.i) (place t.pieces y.b y.j) (below x.b x.j p.j_is) (below y.b y.j q.j_is) e in
      let a = same_part x.a x.i y.a y.i p.a_in p.i_is q.a_in q.i_is both.0 in
      let b = same_part x.b x.j y.b y.j p.b_in p.j_is q.b_in q.j_is both.1 in
      λ k. record { a = a.0 k; i = a.1 k; b = b.0 k; j = b.1 k }

  place_within : (a i : ℕ) → Rattle.staat_model.specs.Sets.Has t.of a → i < pieces_of t a → place t.pieces a i < sum (take 32 t.pieces)
  place_within a i ha lt =
      let small = rules.small a ha in
      let whole : sum (take (a + 1) t.pieces) ≡ sum (take a t.pieces) + get_or t.pieces a 0 = sum_by_more (λ x. x) t.pieces a 0 (has_place t.pieces a i lt) in
      let rise : sum (take (a + 1) t.pieces) ≤ sum (take 32 t.pieces) = subst (λ ys. sum ys ≤ sum (take 32 t.pieces)) (take-take (a + 1) 32 t.pieces (omega (arith, small))) (sum_by-take-le (λ x. x) (take 32 t.pieces) (a + 1)) in
      omega (arith, whole, rise, lt)

  -- a number past the pieces is no pair's
  pub past_no_pair : (n q : ℕ) → n ≡ sum (take 32 t.pieces) → ((n ≤ q / 64) ⊎ (n ≤ q % 64)) → (arc : Arc) → IsTableArc t arc → slot t.pieces arc ≡ q → ⊥
  past_no_pair n q size past arc across sl =
      let a = place_within arc.a arc.i across.a_in across.i_is in
      let b = place_within arc.b arc.j across.b_in across.j_is in
      let d = parts_by_64 (place t.pieces arc.a arc.i) (place t.pieces arc.b arc.j) q (below arc.b arc.j across.j_is) sl in
      ⊎_elim {C = ⊥} (λ h. absurd (omega (arith, a, size, d.0, h))) (λ h. absurd (omega (arith, b, size, d.1, h))) past

  pub slot_small : (arc : Arc) → IsTableArc t arc → slot t.pieces arc < 4096
  slot_small arc across = let a = below arc.a arc.i across.i_is in let b = below arc.b arc.j across.j_is in omega (arith, a, b)

  -- in the end all are told
  pub all_told : (s : Signed) (n : ℕ) → 4096 ≤ n → AreToldBelow t s n → BelongTo t s
  all_told s n whole told = record {
    states = told.states;
    all = λ arc across. ⊎_elim {C = IsPairOf t s arc}
        (λ (other, across', e, pair). subst (IsPairOf t s) (one_arc other arc across' across e) pair)
        (λ h. absurd (h.1 arc across refl))
        (told.told (slot t.pieces arc) (let lt = slot_small arc across in omega (arith, lt, whole)));
    only = λ q lt. ⊎_elim {C = ((arc : Arc) × IsTableArc t arc × (slot t.pieces arc ≡ q)) ⊎ IsUnused s q}
        (λ (arc, across, e, pair). inl (arc, across, e)) (λ h. inr h.0)
        (told.told q (let e = told.pairs in omega (arith, e, lt, whole)));
  }

-- ---- at first

pub none_told : (t : Table) (s : Signed) (n : ℕ) → n ≡ length t.planes → s ≡ record { states = replicate n no_state; pairs = replicate 4096 no_pair } → AreToldBelow t s 0
none_told t s n e is = subst (λ (u : Signed). AreToldBelow t u 0) (sym is) (record {
  states = length-replicate {A = PlaneState} n no_state ∙ e;
  pairs = length-replicate {A = PairCount} 4096 no_pair;
  zero = λ k. ap (λ x. x.sign) (empty k);
  told = λ q lt. absurd (omega (arith, lt));
  rest = λ q le. record { pair = at_replicate 4096 no_pair q; along = λ k. ap (λ x. occurs q x.along) (empty k); against = λ k. ap (λ x. occurs q x.against) (empty k) };
})
  where
    empty : (k : ℕ) → state_at (replicate n no_state) k ≡ no_state
    empty k = at_replicate n no_state k
