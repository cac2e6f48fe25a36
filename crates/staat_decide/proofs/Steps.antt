-- The parts with one label, and those of all labels below a number, one step after the other.
use Rattle.std.proofs.Common.{All, ◌≡◌, ℕ, ◌+◌, ◌<◌, ◌≤◌, ◌⊎◌, inl, inr, ⊎_elim, List, [], ◌∷◌, ◌++◌, Contains, arith, get_or, length, map, subst, sym, ◌↔◌}
use Rattle.std.specs.List.Sorted.{IsStrictlySortedBy}
use Rattle.std.specs.Ordering.{nat_cmp}
use Rattle.std.specs.declared.cmp.Ordering.TheVariants.{Less}
use Rattle.std.proofs.lemmas.Bool.{cases_lt}
use Rattle.std.proofs.lemmas.List.{map-append}
use Rattle.std.proofs.lemmas.List.Elements.{All-nil, All-push, Contains-push, Contains-push_cases}
use Rattle.std.proofs.lemmas.Map.Keys.{Less-from_sorted}
use Rattle.staat_vec.specs.Lists.{Lists}
use Rattle.staat_vec.proofs.Unique.{Contains-cases, Contains-nothing, Contains-front}
use Rattle.staat_model.specs.declared.set.PartSet.{PartSet}
use Rattle.staat_model.specs.SetLists.{set_of, union_of}
use Rattle.staat_model.specs.Sets.{Has}
use Rattle.staat_model.proofs.SetListings.{has-set_of}
use Rattle.staat_model.proofs.SetMembers.{has-empty, has-union}
use Rattle.staat_decide.specs.Labels.{AllPrecede, AreClasses, HasLabel, HasLabelBelow, HoldsOfLater, IsClass}
use Rattle.staat_vec.proofs.Comparisons.{sorted_push_less}
use Rattle.staat_vec.proofs.ListLaws.{Contains-there}

-- ---- ascending lists

pub sorted_none : IsStrictlySortedBy nat_cmp []
unfolding IsStrictlySortedBy
sorted_none = tt

-- ---- one label

more : (w labels : List ℕ) (n k p : ℕ) → HasLabel w labels n k p → HasLabel w labels (n + 1) k p
more w labels n k p h = record { i = h.i; before = omega (arith, h.before); part = h.part; label = h.label }

-- the place is the last one, or an earlier one
last_or : (w labels : List ℕ) (n k p : ℕ) → HasLabel w labels (n + 1) k p
    → HasLabel w labels n k p ⊎ ((get_or w n 0 ≡ p) × (get_or labels n 0 ≡ k))
last_or w labels n k p h = ⊎_elim
    (λ lt. inl (record { i = h.i; before = lt; part = h.part; label = h.label }))
    (λ ge. let e : h.i ≡ n = omega (arith, ge, h.before) in
    inr (subst (λ m. get_or w m 0 ≡ p) e h.part, subst (λ m. get_or labels m 0 ≡ k) e h.label))
    (cases_lt h.i n)

pub no_labels : (w labels : List ℕ) (k : ℕ) → Lists nat_cmp (HasLabel w labels 0 k) []
no_labels w labels k = record {
  ascending = sorted_none;
  each = λ p h. absurd (Contains-nothing p h);
  all = λ p h. absurd (omega (arith, h.before));
}

pub label_more : (w labels : List ℕ) (n k : ℕ) (s : List ℕ) → IsStrictlySortedBy nat_cmp w → n < length w
    → get_or labels n 0 ≡ k → Lists nat_cmp (HasLabel w labels n k) s
    → Lists nat_cmp (HasLabel w labels (n + 1) k) (s ++ get_or w n 0 ∷ [])
label_more w labels n k s sorted lt e is = record {
  ascending = sorted_push_less s (get_or w n 0) is.ascending (λ y y_in.
      let h = is.each y y_in in
      subst (λ z. nat_cmp z (get_or w n 0) ≡ Less) h.part (Less-from_sorted nat_cmp w h.i n 0 sorted h.before lt));
  each = λ p h. ⊎_elim {C = HasLabel w labels (n + 1) k p}
      (λ old. more w labels n k p (is.each p old))
      (λ new. record { i = n; before = omega arith; part = new; label = e })
      (Contains-push_cases s (get_or w n 0) p h);
  all = λ p h. ⊎_elim {C = Contains (s ++ get_or w n 0 ∷ []) p}
      (λ old. front s (get_or w n 0) p (is.all p old))
      (λ new. subst (Contains (s ++ get_or w n 0 ∷ [])) new.0 (Contains-push s (get_or w n 0)))
      (last_or w labels n k p h);
}
  where
    front : (xs : List ℕ) (x p : ℕ) → Contains xs p → Contains (xs ++ x ∷ []) p
    front [] x p h = absurd (Contains-nothing p h)
    front (y ∷ ys) x p h = ⊎_elim {C = Contains (y ∷ (ys ++ x ∷ [])) p}
        (λ e. subst (Contains (y ∷ (ys ++ x ∷ []))) (sym e) (Contains-front y (ys ++ x ∷ [])))
        (λ later. Contains-there y p (ys ++ x ∷ []) (front ys x p later))
        (Contains-cases y ys p h)

pub label_same : (w labels : List ℕ) (n k : ℕ) (s : List ℕ) → (get_or labels n 0 ≡ k → ⊥)
    → Lists nat_cmp (HasLabel w labels n k) s → Lists nat_cmp (HasLabel w labels (n + 1) k) s
label_same w labels n k s other is = record {
  ascending = is.ascending;
  each = λ p h. more w labels n k p (is.each p h);
  all = λ p h. ⊎_elim {C = Contains s p}
      (λ old. is.all p old)
      (λ new. absurd (other new.1))
      (last_or w labels n k p h);
}

-- ---- sets of members

pub union_push : (sets : List PartSet) (t : PartSet) (p : ℕ)
    → Has (union_of (sets ++ t ∷ [])) p ↔ (Has (union_of sets) p ⊎ Has t p)
union_push [] t p = (
  λ h. ⊎_elim {C = Has (union_of []) p ⊎ Has t p} (λ a. inr a) (λ b. inl b) ((has-union t (union_of []) p).0 h),
  λ h. (has-union t (union_of []) p).1 (⊎_elim {C = Has t p ⊎ Has (union_of []) p} (λ a. inr a) (λ b. inl b) h),
)
union_push (s ∷ rest) t p = (
  λ h. ⊎_elim {C = Has (union_of (s ∷ rest)) p ⊎ Has t p}
      (λ a. inl ((has-union s (union_of rest) p).1 (inl a)))
      (λ b. ⊎_elim {C = Has (union_of (s ∷ rest)) p ⊎ Has t p}
      (λ x. inl ((has-union s (union_of rest) p).1 (inr x)))
      (λ y. inr y)
      ((union_push rest t p).0 b))
      ((has-union s (union_of (rest ++ t ∷ [])) p).0 h),
  λ h. (has-union s (union_of (rest ++ t ∷ [])) p).1 (⊎_elim {C = Has s p ⊎ Has (union_of (rest ++ t ∷ [])) p}
      (λ a. ⊎_elim {C = Has s p ⊎ Has (union_of (rest ++ t ∷ [])) p}
      (λ x. inl x)
      (λ y. inr ((union_push rest t p).1 (inl y)))
      ((has-union s (union_of rest) p).0 a))
      (λ b. inr ((union_push rest t p).1 (inr b)))
      h),
)

pub in_union : (sets : List PartSet) (t : PartSet) → Contains sets t → (p : ℕ) → Has t p → Has (union_of sets) p
in_union [] t t_in p h = absurd (Contains-nothing t t_in)
in_union (s ∷ rest) t t_in p h = (has-union s (union_of rest) p).1 (⊎_elim {C = Has s p ⊎ Has (union_of rest) p}
    (λ e. inl (subst (λ u. Has u p) e h))
    (λ later. inr (in_union rest t later p h))
    (Contains-cases s rest t t_in))

pub later_push : (R : PartSet → PartSet → Type 0) (sets : List PartSet) (t : PartSet) → HoldsOfLater R sets
    → ((s : PartSet) → Contains sets s → R s t) → HoldsOfLater R (sets ++ t ∷ [])
later_push R [] t h f = ((λ u u_in. absurd (Contains-nothing u u_in)), tt)
later_push R (s ∷ rest) t h f = (
  (λ u u_in. ⊎_elim {C = R s u}
      (λ old. h.0 u old)
      (λ e. subst (R s) e (f s (Contains-front s rest)))
      (Contains-push_cases rest t u u_in)),
  later_push R rest t h.1 (λ v v_in. f v (Contains-there s v rest v_in)),
)

-- ---- all labels below a number

pub no_classes : (w labels : List ℕ) → AreClasses w labels 0 []
no_classes w labels = record {
  each = All-nil (IsClass w labels 0);
  members = λ p. ((λ h. absurd (has-empty p h)), (λ h. absurd (omega (arith, h.below))));
  order = tt;
}

below_more : (w labels : List ℕ) (n p : ℕ) → HasLabelBelow w labels n p → HasLabelBelow w labels (n + 1) p
below_more w labels n p h = record { k = h.k; below = omega (arith, h.below); has = h.has }

last_label_or : (w labels : List ℕ) (n p : ℕ) → HasLabelBelow w labels (n + 1) p
    → HasLabelBelow w labels n p ⊎ HasLabel w labels (length w) n p
last_label_or w labels n p h = ⊎_elim
    (λ lt. inl (record { k = h.k; below = lt; has = h.has }))
    (λ ge. let e : h.k ≡ n = omega (arith, ge, h.below) in inr (subst (λ k. HasLabel w labels (length w) k p) e h.has))
    (cases_lt h.k n)

classes_more : (w labels : List ℕ) (n : ℕ) (sets : List (List ℕ)) → All (IsClass w labels n) sets
    → All (IsClass w labels (n + 1)) sets
classes_more w labels n sets each i d lt =
    let h = each i d lt in
    record { k = h.k; below = omega (arith, h.below); nonempty = h.nonempty; lists = h.lists }

pub class_more : (w labels : List ℕ) (n : ℕ) (sets : List (List ℕ)) (s : List ℕ) → 0 < length s
    → Lists nat_cmp (HasLabel w labels (length w) n) s → AreClasses w labels n sets
    → AreClasses w labels (n + 1) (sets ++ s ∷ [])
class_more w labels n sets s some is old = record {
  each = All-push (IsClass w labels (n + 1)) sets s (classes_more w labels n sets old.each) (record { k = n; below = omega arith; nonempty = omega (arith, some); lists = is });
  members = λ p. (
    λ h. ⊎_elim {C = HasLabelBelow w labels (n + 1) p}
        (λ a. below_more w labels n p ((old.members p).0 a))
        (λ b. record { k = n; below = omega arith; has = is.each p ((has-set_of s p).0 b) })
        ((union_push (map set_of sets) (set_of s) p).0 (subst (λ us. Has (union_of us) p) pushed h)),
    λ h. subst (λ us. Has (union_of us) p) (sym pushed)
        ((union_push (map set_of sets) (set_of s) p).1 (⊎_elim {C = Has (union_of (map set_of sets)) p ⊎ Has (set_of s) p}
        (λ a. inl ((old.members p).1 a))
        (λ b. inr ((has-set_of s p).1 (is.all p b)))
        (last_label_or w labels n p h))),
  );
  order = subst (HoldsOfLater (AllPrecede w labels)) (sym pushed)
      (later_push (AllPrecede w labels) (map set_of sets) (set_of s) old.order (λ u u_in p q p_in q_in.
      let below = (old.members p).0 (in_union (map set_of sets) u u_in p p_in) in
      record { k = below.k; l = n; less = below.below; first = below.has; second = is.each q ((has-set_of s q).0 q_in) }));
}
  where
    pushed : map set_of (sets ++ s ∷ []) ≡ map set_of sets ++ set_of s ∷ []
    pushed = map-append set_of sets (s ∷ [])

pub class_same : (w labels : List ℕ) (n : ℕ) (sets : List (List ℕ)) (s : List ℕ) → length s ≤ 0
    → Lists nat_cmp (HasLabel w labels (length w) n) s → AreClasses w labels n sets
    → AreClasses w labels (n + 1) sets
class_same w labels n sets s empty is old = record {
  each = classes_more w labels n sets old.each;
  members = λ p. (
    λ h. below_more w labels n p ((old.members p).0 h),
    λ h. ⊎_elim {C = Has (union_of (map set_of sets)) p}
        (λ a. (old.members p).1 a)
        (λ b. let (k, lt, e) = is.all p b in absurd (omega (arith, lt, empty)))
        (last_label_or w labels n p h),
  );
  order = old.order;
}
