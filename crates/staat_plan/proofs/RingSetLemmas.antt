-- Which planes are linked while those that are none of a set of parts are taken out.
use Rattle.std.proofs.Common.{◌≡◌, ◌≢◌, inl, inr, ℕ, ◌+◌, Bool, not, arith, ap, sym, subst, ◌∙◌, List, []}
use Rattle.std.proofs.Common.{length, Contains}
use Rattle.std.specs.{List.filter, Prelude.◌==◌}
use Rattle.staat_vec.proofs.{Naturals.{apart_from_test, eq_test_false, lt_or_le, same_or}, Unique.Contains-nothing}
use Rattle.staat_model.specs.declared.set.PartSet.{PartSet}
use Rattle.staat_pairs.specs.Tables.{Table}
use Rattle.staat_planes.specs.MarkedPlanes.{AreUsedMarks, IsPlaneMarked}
use Rattle.staat_ring.specs.{Rings.{Arrangement, WereMadeFrom, linked_of, unlinked_of}, Without.IsUnlinked}
use Rattle.staat_ring.proofs.{RingsWithout.linked_without, WithoutLemmas.{filter_from, filter_in}}
use Rattle.staat_plan.specs.RingSets.{AreLinkedOrPast}

-- all planes are linked at first, and the coordinate planes are marked
pub all_linked : (t : Table) (w : PartSet) (marks : List Bool) (rings : Arrangement) → WereMadeFrom t.planes rings
    → rings.unlinked ≡ [] → AreUsedMarks t w marks
    → AreLinkedOrPast (length t.planes) marks (linked_of rings.rings) 3
all_linked t w marks rings made whole are j lt = (
  λ _. elim (lt_or_le j 3) [ inl axis ↦ inr (are.axes j axis) | inr past ↦ inl past ],
  λ _. elim (made.now.all j lt) [
    | inl c ↦ c
    | inr c ↦ absurd (Contains-nothing j (subst (λ ks. Contains ks j) (ap unlinked_of whole) c))
  ],
)

-- the next plane is marked
pub marked_past : (n : ℕ) (marks : List Bool) (linked : List ℕ) (k : ℕ) → IsPlaneMarked marks k
    → AreLinkedOrPast n marks linked k → AreLinkedOrPast n marks linked (k + 1)
marked_past n marks linked k marked are j lt = (
  λ c. elim ((are j lt).0 c) [
    | inl past ↦ elim (same_or j k) [
      | inl here ↦ inr (subst (IsPlaneMarked marks) (sym here) marked)
      | inr other ↦ inl (omega arith)
    ]
    | inr m ↦ inr m
  ],
  λ h. (are j lt).1 (elim h [ inl past ↦ inl (omega arith) | inr m ↦ inr m ]),
)

-- it is not, and is taken out
pub unlinked_past : (n : ℕ) (marks : List Bool) (k : ℕ) (a b : Arrangement) → IsUnlinked k a b
    → (IsPlaneMarked marks k → ⊥) → AreLinkedOrPast n marks (linked_of a.rings) k
    → AreLinkedOrPast n marks (linked_of b.rings) (k + 1)
unlinked_past n marks k a b is none are j lt = (
  λ c.
      let (c_in, apart) = filter_from (λ j. not (j == k)) (linked_of a.rings) j (subst (λ ks. Contains ks j) without c) in
      elim ((are j lt).0 c_in) [ inl past ↦ inl (let ne = apart_from_test j k apart in omega arith) | inr m ↦ inr m ],
  λ h. elim h [
    | inl past ↦ kept ((are j lt).1 (inl (omega arith))) (omega arith)
    | inr m ↦ kept ((are j lt).1 (inr m)) (λ e. none (subst (IsPlaneMarked marks) e m))
  ],
)
  where
    without : linked_of b.rings ≡ filter (λ j. not (j == k)) (linked_of a.rings)
    without = ap linked_of is.rings ∙ linked_without k a.rings

    kept : Contains (linked_of a.rings) j → j ≢ k → Contains (linked_of b.rings) j
    kept c ne = subst (λ ks. Contains ks j) (sym without)
        (filter_in (λ j. not (j == k)) (linked_of a.rings) j c (ap not (eq_test_false j k ne)))
