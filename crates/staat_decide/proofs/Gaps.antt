-- Where by all pairs of pieces some node does not reach some other one, a side is free.
use Rattle.std.proofs.Common.{◌≡◌, ◌≢◌, ◌⊎◌, ◌↔◌, ℕ, zero, suc, ◌<◌, ⊎_elim, inl, inr, List, arith, get_or, length, refl, subst, sym, ◌∙◌}
use Rattle.std.specs.FinSet as set
use Rattle.std.specs.List.Sorted.{IsStrictlySortedBy}
use Rattle.std.specs.Ordering.{nat_cmp}
use Rattle.std.proofs.lemmas.Grind.{get_or_default_zero}
use Rattle.staat_vec.specs.declared.vector.V3.{V3}
use Rattle.staat_vec.specs.Vectors.{origin}
use Rattle.staat_model.specs.declared.assembly.Part.{Part}
use Rattle.staat_model.specs.declared.certificate.Arc.{Arc}
use Rattle.staat_model.specs.declared.set.PartSet.{PartSet}
use Rattle.staat_model.specs.Removal.{Blocks, IsFree, MeetsAlong}
use Rattle.staat_model.specs.SetLists.{set_of}
use Rattle.staat_model.specs.Sets.{Has, IsSide}
use Rattle.staat_model.proofs.SetListings.{has-set_of}
use Rattle.staat_model.proofs.SetMembers.{has-difference, has-empty, has-insert}
use Rattle.staat_holds.specs.Reaching.{AllReach, Reaches, here}
use Rattle.staat_decide.specs.Peelings.{IsHeldAlong}
use Rattle.staat_decide.proofs.Rows.{distinct}
use Rattle.staat_holds.proofs.Marking.{reach_more}

-- ---- what cannot fail for one number after the other

below_or : (n k : ℕ) → k < suc n → (k ≡ n) ⊎ (k < n)
below_or n k lt = grind arith

all_hold : (n : ℕ) (P : ℕ → Type 0) → ((k : ℕ) → k < n → (P k → ⊥) → ⊥) → (((k : ℕ) → k < n → P k) → ⊥) → ⊥
all_hold zero P each refuted = refuted (λ k lt. absurd (omega (arith, lt)))
all_hold (suc n) P each refuted = each n (omega arith) (λ last.
    all_hold n P (λ k lt. each k (omega (arith, lt))) (λ rest.
    refuted (λ k lt. ⊎_elim {C = P k} (λ e. subst P (sym e) last) (λ less. rest k less) (below_or n k lt))))

-- ---- the parts at the places that have a property

record IsSetAt (w : List ℕ) (Q : ℕ → Type 0) (n p : ℕ) : Type 0 where
  k : ℕ
  before : k < n
  has : Q k
  is : get_or w k 0 ≡ p

set_at : (w : List ℕ) (Q : ℕ → Type 0) (n : ℕ) → ((k : ℕ) → k < n → Q k ⊎ (Q k → ⊥))
    → (s : PartSet) × ((p : ℕ) → Has s p ↔ IsSetAt w Q n p)
set_at w Q zero dec = (set.empty, λ p. (λ h. absurd (has-empty p h), λ h. absurd (let lt = h.before in omega (arith, lt))))
set_at w Q (suc n) dec = go (dec n (omega arith)) (set_at w Q n (λ k lt. dec k (omega (arith, lt))))
  where
    later : (p : ℕ) → IsSetAt w Q n p → IsSetAt w Q (suc n) p
    later p h = let lt = h.before in record { k = h.k; before = omega (arith, lt); has = h.has; is = h.is }

    go : Q n ⊎ (Q n → ⊥) → (s : PartSet) × ((p : ℕ) → Has s p ↔ IsSetAt w Q n p) → (s : PartSet) × ((p : ℕ) → Has s p ↔ IsSetAt w Q (suc n) p)
    go (inl q) (s, is) = (
      set.insert s (get_or w n 0),
      λ p. (
        λ h. ⊎_elim {C = IsSetAt w Q (suc n) p}
            (λ e. record { k = n; before = omega arith; has = q; is = sym e })
            (λ old. later p ((is p).0 old))
            ((has-insert s (get_or w n 0) p).0 h),
        λ h. (has-insert s (get_or w n 0) p).1 (⊎_elim {C = (p ≡ get_or w n 0) ⊎ Has s p}
            (λ e. inl (sym (h.is) ∙ (let same : get_or w h.k 0 ≡ get_or w n 0 = subst (λ m. get_or w m 0 ≡ get_or w n 0) (sym e) refl in same)))
            (λ less. inr ((is p).1 (record { k = h.k; before = less; has = h.has; is = h.is })))
            (below_or n h.k h.before)),
      ),
    )
    go (inr refuted) (s, is) = (
      s,
      λ p. (
        λ h. later p ((is p).0 h),
        λ h. (is p).1 (⊎_elim {C = IsSetAt w Q n p}
            (λ e. absurd (refuted (subst Q e h.has)))
            (λ less. record { k = h.k; before = less; has = h.has; is = h.is })
            (below_or n h.k h.before)),
      ),
    )

-- ---- a free side

module _ (parts : List Part) (d : V3) (w : List ℕ) (R : ℕ → ℕ → Type 0) (moves : d ≢ origin) (sorted : IsStrictlySortedBy nat_cmp w)
    (leads : (i j : ℕ) → i < length w → j < length w → Blocks parts d (get_or w i 0) (get_or w j 0) → R i j) (held : IsHeldAlong parts d (set_of w)) where
  member : (i : ℕ) → i < length w → Has (set_of w) (get_or w i 0)
  member i lt = (has-set_of w (get_or w i 0)).1 (i, lt, get_or_default_zero w i (get_or w i 0) lt)

  place : (p : ℕ) → Has (set_of w) p → (i : ℕ) × (i < length w) × (get_or w i 0 ≡ p)
  place p h = let (i, lt, e) = (has-set_of w p).0 h in (i, lt, sym (get_or_default_zero w i p lt) ∙ e)

  -- what is reached is a side, which is free, where something is not
  not_decided : (x y : ℕ) → x < length w → y < length w → (Reaches R x y → ⊥)
      → ((k : ℕ) → k < length w → Reaches R x k ⊎ (Reaches R x k → ⊥)) → ⊥
  not_decided x y x_lt y_lt off dec = held side is_side free
    where
      found : (s : PartSet) × ((p : ℕ) → Has s p ↔ IsSetAt w (Reaches R x) (length w) p)
      found = set_at w (Reaches R x) (length w) dec

      side : PartSet
      side = found.0

      in_side : (p : ℕ) → Has side p → IsSetAt w (Reaches R x) (length w) p
      in_side p h = (found.1 p).0 h

      to_side : (k : ℕ) → k < length w → Reaches R x k → Has side (get_or w k 0)
      to_side k lt r = (found.1 (get_or w k 0)).1 (record { k = k; before = lt; has = r; is = refl })

      from_side : (k : ℕ) → k < length w → Has side (get_or w k 0) → Reaches R x k
      from_side k lt h =
          let at = in_side (get_or w k 0) h in
          subst (Reaches R x) (distinct w at.k k sorted at.before lt at.is) at.has

      is_side : IsSide (set_of w) side
      is_side = record {
        nonempty = (get_or w x 0, to_side x x_lt here);
        within = λ p h. let at = in_side p h in subst (Has (set_of w)) at.is (member at.k at.before);
        proper = λ e. off (from_side y y_lt (subst (λ (t : PartSet). Has t (get_or w y 0)) (sym e) (member y y_lt)));
      }

      free : IsFree parts side (set.difference (set_of w) side) d
      free = record { moves = moves; clear = clear }
        where
          clear : (arc : Arc) → Has side arc.a → Has (set.difference (set_of w) side) arc.b → MeetsAlong parts d arc → ⊥
          clear arc a_in b_in m =
              let at = in_side arc.a a_in in
              let rest = (has-difference (set_of w) side arc.b).0 b_in in
              let (j, j_lt, e) = place arc.b rest.0 in
              let ne : arc.a ≢ arc.b = λ same. rest.1 (subst (Has side) same a_in) in
              let b : Blocks parts d arc.a arc.b = record { i = arc.i; j = arc.j; different = ne; meets = m } in
              let b2 : Blocks parts d (get_or w at.k 0) (get_or w j 0) = subst (λ q. Blocks parts d q (get_or w j 0)) (sym at.is) (subst (λ q. Blocks parts d arc.a q) (sym e) b) in
              rest.1 (subst (Has side) e (to_side j j_lt (reach_more at.has (leads at.k j at.before j_lt b2))))

  pub no_gap : (AllReach (length w) R → ⊥) → ⊥
  no_gap gap =
      all_hold (length w) (λ x. (y : ℕ) → y < length w → Reaches R x y)
      (λ x x_lt refuted. all_hold (length w) (Reaches R x)
      (λ y y_lt off. all_hold (length w) (λ k. Reaches R x k ⊎ (Reaches R x k → ⊥))
      (λ k k_lt undecided. undecided (inr (λ r. undecided (inl r))))
      (not_decided x y x_lt y_lt off))
      refuted)
      (λ all. gap (λ x y x_lt y_lt. all x x_lt y y_lt))
