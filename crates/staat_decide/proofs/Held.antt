-- Two labels make two sets; and where each place is reached along arcs and against them, no side of the set is free.
use Rattle.std.proofs.Common.{◌≡◌, ◌≢◌, ◌∙◌, ℕ, ◌<◌, ◌≤◌, ◌↔◌, ⊎_elim, Bool, true, false, IsTrue, List, [], ◌∷◌, arith, ap, get_or, length, map, not, refl, subst, sym}
use Rattle.std.specs.Prelude.{Err, IfNone, IfOk, None, Ok, Option, Result, Some}
use Rattle.std.specs.FinSet as set
use Rattle.std.specs.List.Sorted.{IsStrictlySortedBy}
use Rattle.std.specs.Ordering.{nat_cmp}
use Rattle.std.proofs.lemmas.Bool.{false≢true}
use Rattle.std.proofs.lemmas.Grind.{get_or_default_zero}
use Rattle.staat_vec.specs.declared.vector.V3.{V3}
use Rattle.staat_vec.specs.Vectors.{origin}
use Rattle.staat_model.specs.declared.assembly.Part.{Part}
use Rattle.staat_model.specs.declared.set.PartSet.{PartSet}
use Rattle.staat_model.specs.Removal.{Blocks, IsFree}
use Rattle.staat_model.specs.SetLists.{set_of}
use Rattle.staat_model.specs.Sets.{Has, IsSide}
use Rattle.staat_model.proofs.SetListings.{has-set_of}
use Rattle.staat_model.proofs.SetMembers.{has-difference, has-empty, has-union}
use Rattle.staat_model.proofs.SetWords.{same_members}
use Rattle.staat_motion.proofs.Zips.{zip_read}
use Rattle.staat_decide.specs.declared.reach.Way.{Way}
use Rattle.staat_decide.specs.declared.reach.Way.TheVariants.{Ahead, Back}
use Rattle.staat_decide.specs.Arcs.{AreBlockingRows}
use Rattle.staat_decide.specs.Labels.{AreClasses, IsClass}
use Rattle.staat_decide.specs.Peelings.{IsHeldAlong, IsPeeling}
use Rattle.staat_decide.specs.Reaching.{AreAllReached, AreReached, HasRowArc, IsClosedAlong, label_of}
use Rattle.staat_decide.proofs.MarkedPlaces.{keeps_order_by, label_at, labels_count, labels_differ, labels_small}
use Rattle.staat_decide.proofs.Rows.{distinct, peeling_from, row_at, row_count}
use Rattle.staat_vec.proofs.Truth.{not_true_clash}
use Rattle.staat_vec.proofs.ListLaws.{any_default}

-- ---- two labels

pub two_classes : (w labels : List ℕ) (n : ℕ) (sets : List (List ℕ)) (i j : ℕ) → IsStrictlySortedBy nat_cmp w → i < length w → j < length w → get_or labels i 0 < n → get_or labels j 0 < n
    → (get_or labels i 0 ≡ get_or labels j 0 → ⊥) → AreClasses w labels n sets → 2 ≤ length sets
two_classes w labels n [] i j sorted i_in j_in i_small j_small differ is = absurd (has-empty (get_or w i 0) ((is.members (get_or w i 0)).1 (record {
  k = get_or labels i 0;
  below = i_small;
  has = record { i = i; before = i_in; part = refl; label = refl };
})))
two_classes w labels n (s ∷ []) i j sorted i_in j_in i_small j_small differ is = absurd (differ (own i i_in i_small ∙ sym (own j j_in j_small)))
  where
    class : IsClass w labels n s
    class = is.each 0 s (omega arith)

    own : (m : ℕ) → m < length w → get_or labels m 0 < n → get_or labels m 0 ≡ class.k
    own m m_in small =
        let p = get_or w m 0 in
        let h = (is.members p).1 (record { k = get_or labels m 0; below = small; has = record { i = m; before = m_in; part = refl; label = refl } }) in
        let s_has = ⊎_elim {C = Has (set_of s) p} (λ a. a) (λ b. absurd (has-empty p b)) ((has-union (set_of s) set.empty p).0 h) in
        let at = class.lists.each p ((has-set_of s p).0 s_has) in
        let same : at.i ≡ m = distinct w at.i m sorted at.before m_in at.part in
        subst (λ k. get_or labels k 0 ≡ class.k) same at.label
two_classes w labels n (s ∷ t ∷ rest) i j sorted i_in j_in i_small j_small differ is = omega arith

-- what is reached on a way, and the rest, leave one after the other where the rest is not empty
pub split_is : (parts : List Part) (d : V3) (w : List ℕ) (rows : List (List Bool)) (way : Way) (marks : List Bool) (sets : List (List ℕ)) (u : ℕ) → d ≢ origin → AreBlockingRows parts d w rows → IsStrictlySortedBy nat_cmp w → 1 ≤ length w
    → AreReached way rows marks → IsClosedAlong way rows marks → u < length marks → get_or marks u true ≡ false → AreClasses w (map (label_of way) marks) 2 sets → IsPeeling parts d w sets
split_is parts d w rows way marks sets u moves is sorted some reached closed lt fresh classes =
    peeling_from parts d w labels rows 2 sets moves is sorted same (labels_small way marks) (keeps_order_by way rows marks closed) classes two
  where
    labels : List ℕ
    labels = map (label_of way) marks

    same : length labels ≡ length w
    same = labels_count way marks ∙ reached.count ∙ row_count parts d w rows is

    count : length labels ≡ length marks
    count = labels_count way marks

    first : get_or labels 0 0 ≡ label_of way true
    first = label_at way marks 0 (omega (arith, lt)) ∙ ap (label_of way) reached.first

    other : get_or labels u 0 ≡ label_of way false
    other = label_at way marks u lt ∙ ap (label_of way) (any_default marks u false true lt ∙ fresh)

    two : 2 ≤ length sets
    two = two_classes w labels 2 sets 0 u sorted (omega (arith, some)) (omega (arith, same, count, lt))
        (labels_small way marks 0 0 (omega (arith, count, lt))) (labels_small way marks u 0 (omega (arith, count, lt)))
        (λ e. labels_differ way (sym first ∙ e ∙ other)) classes

-- ---- no side is free

arc_is : (parts : List Part) (d : V3) (w : List ℕ) (rows : List (List Bool)) (i j : ℕ) → AreBlockingRows parts d w rows → i < length w → j < length w → HasRowArc rows i j ↔ Blocks parts d (get_or w i 0) (get_or w j 0)
arc_is parts d w rows i j is i_in j_in =
    zip_read (λ q answer. IsTrue answer ↔ Blocks parts d (get_or w i 0) q) w (get_or rows i []) j (get_or w j 0) false
    (row_at parts d w rows i is i_in) j_in (sym (get_or_default_zero w j (get_or w j 0) j_in))

-- what is at a place of the list is in its set
member : (w : List ℕ) (i : ℕ) → i < length w → Has (set_of w) (get_or w i 0)
member w i lt = (has-set_of w (get_or w i 0)).1 (i, lt, get_or_default_zero w i (get_or w i 0) lt)

place : (w : List ℕ) (p : ℕ) → Has (set_of w) p → (i : ℕ) × (i < length w) × (get_or w i 0 ≡ p)
place w p h = let (i, lt, e) = (has-set_of w p).0 h in (i, lt, sym (get_or_default_zero w i p lt) ∙ e)

module _ (parts : List Part) (d : V3) (w : List ℕ) (rows : List (List Bool)) (s : PartSet) (is : AreBlockingRows parts d w rows) (side : IsSide (set_of w) s) (free : IsFree parts s (set.difference (set_of w) s) d) where
  count : length rows ≡ length w
  count = row_count parts d w rows is

  -- no part of the side blocks one that is not in it
  clash : (i k : ℕ) → i < length rows → k < length rows → HasRowArc rows i k → Has s (get_or w i 0) → (Has s (get_or w k 0) → ⊥) → ⊥
  clash i k i_lt k_lt arc in_s out =
      let i_in : i < length w = omega (arith, count, i_lt) in
      let k_in : k < length w = omega (arith, count, k_lt) in
      let b = (arc_is parts d w rows i k is i_in k_in).0 arc in
      free.clear (record { a = get_or w i 0; i = b.i; b = get_or w k 0; j = b.j }) in_s
      ((has-difference (set_of w) s (get_or w k 0)).1 (member w k k_in, out)) b.meets

  ahead : AreAllReached Ahead rows → set.contains s (get_or w 0 0) ≡ true → ⊥
  ahead all root = side.proper (same_members s (set_of w) side.within covers)
    where
      step : (i k : ℕ) → i < length rows → k < length rows → HasRowArc rows i k → IsTrue (set.contains s (get_or w i 0)) → (b : Bool) → set.contains s (get_or w k 0) ≡ b → b ≡ true
      step i k i_lt k_lt arc h true e = refl
      step i k i_lt k_lt arc h false e = absurd (clash i k i_lt k_lt arc h (λ t. false≢true (sym e ∙ t)))

      covers : (p : ℕ) → Has (set_of w) p → Has s p
      covers p h =
          let (i, lt, e) = place w p h in
          subst (Has s) e (all i (omega (arith, count, lt)) (λ m. set.contains s (get_or w m 0)) root
          (λ i k i_lt k_lt arc here. step i k i_lt k_lt arc here (set.contains s (get_or w k 0)) refl))

  back : AreAllReached Back rows → set.contains s (get_or w 0 0) ≡ false → ⊥
  back all root =
      let (p, h) = side.nonempty in
      let (i, lt, e) = place w p (side.within p h) in
      let out : not (set.contains s (get_or w i 0)) ≡ true = all i (omega (arith, count, lt)) (λ m. not (set.contains s (get_or w m 0))) (ap not root)
      (λ i k i_lt k_lt arc here. step i k i_lt k_lt arc here (set.contains s (get_or w k 0)) refl) in
      false≢true (sym (ap not (subst (λ q. set.contains s q ≡ true) (sym e) h)) ∙ out)
    where
      step : (i k : ℕ) → i < length rows → k < length rows → HasRowArc rows k i → IsTrue (not (set.contains s (get_or w i 0))) → (b : Bool) → set.contains s (get_or w k 0) ≡ b → IsTrue (not (set.contains s (get_or w k 0)))
      step i k i_lt k_lt arc h true e = absurd (clash k i k_lt i_lt arc e (not_true_clash (set.contains s (get_or w i 0)) h))
      step i k i_lt k_lt arc h false e = ap not e

-- where each place is reached along arcs and against them, no side is free
pub held_from : (parts : List Part) (d : V3) (w : List ℕ) (rows : List (List Bool)) → AreBlockingRows parts d w rows → AreAllReached Ahead rows → AreAllReached Back rows → IsHeldAlong parts d (set_of w)
held_from parts d w rows is there here s side free = at (set.contains s (get_or w 0 0)) refl
  where
    at : (b : Bool) → set.contains s (get_or w 0 0) ≡ b → ⊥
    at true e = ahead parts d w rows s is side free there e
    at false e = back parts d w rows s is side free here e

-- the set of no parts has no side
pub held_none : (parts : List Part) (d : V3) (w : List ℕ) → length w ≡ 0 → IsHeldAlong parts d (set_of w)
held_none parts d [] e s side free = let (p, h) = side.nonempty in has-empty p (side.within p h)
held_none parts d (p ∷ w) e s side free = absurd (omega (arith, e))

pub none_weaker : {X A B : Type 0} → (o : Option X) → (A → B) → IfNone o A → IfNone o B
none_weaker None f h = f h
none_weaker (Some x) f h = tt

pub none_weaker_told : {X A B E : Type 0} → (r : Result (Option X) E) → (A → B) → IfOk r (λ o. IfNone o A) → IfOk r (λ o. IfNone o B)
none_weaker_told (Ok o) f h = none_weaker o f h
none_weaker_told (Err e) f h = tt

pub none_if : {X A : Type 0} → (o : Option X) → IfNone o A → ((x : X) → o ≡ Some x → ⊥) → A
none_if None h not_some = h
none_if (Some x) h not_some = absurd (not_some x refl)

pub none_is : {X A : Type 0} → (o : Option X) → o ≡ None → IfNone o A → A
none_is None e h = h
none_is (Some x) e h = absurd cc
