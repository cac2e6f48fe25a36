-- Going around a circle.
use Rattle.std.specs.{List.Sorted.IsStrictlySortedBy, Ordering.nat_cmp, Prelude.{◌==◌, IsTrue, Some, None, slice_get}}
use Rattle.std.proofs.{Math.Nat.{mod_self, mod-eq_of_lt}, lemmas.List.Sums.get_or-le-sum_by}
use Rattle.std.proofs.lemmas.Option.{slice_get_within}
use Rattle.std.proofs.Common.{◌≡◌, ◌≢◌, ◌⊎◌, inl, inr, ⊎_elim, ℕ, ◌+◌, ◌%◌, ◌<◌, ◌≤◌, Bool, true, false, arith, ap, sym, subst, ◌∙◌, refl, List, length, cond, eq-eqb, Contains}
use Rattle.staat_vec.specs.declared.vector.V3.{V3}
use Rattle.staat_vec.proofs.{Naturals.same_or, Options.none_some, Truth.false_test_clash}
use Rattle.staat_model.specs.{declared.assembly.Part.Part, declared.set.PartSet.PartSet}
use Rattle.staat_ring.specs.{Places.IsStopAt, Rings.{Ring, RingStop, linked_of}, Walked.{AtStop, IsEntered, Walked}}
use Rattle.staat_ring.proofs.StopLemmas.{one_ring}
use Rattle.staat_plan.specs.RingSearches.{IsBest, length_at}

around : (a n : ℕ) → a < n → ((a + 1 ≡ n) × ((a + 1) % n ≡ 0)) ⊎ ((a + 1 < n) × ((a + 1) % n ≡ a + 1))
around a n lt = elim (same_or (a + 1) n) [
  | inl e ↦ inl (e, ap (λ b. b % n) e ∙ mod_self n)
  | inr ne ↦ (let more : a + 1 < n = omega arith in inr (more, mod-eq_of_lt more))
]

pub length_has : (rings : List Ring) (r : Ring) → Contains rings r → length r.stops ≤ length_at r.plane rings
unfolding length_at
length_has rings r (k, lt, e) =
    let le = get_or-le-sum_by (λ q. cond (q.plane == r.plane) (length q.stops) 0) rings k r lt in
    let h = ap (λ q. cond (q.plane == r.plane) (length q.stops) 0) e in
    let t = ap (λ b. cond b (length r.stops) 0) (eq-eqb r.plane r.plane refl) in
    omega (arith, le, h, t)

module _ {rings : List Ring} {planes : List V3} {now : Walked} {i : ℕ}
    (sorted : IsStrictlySortedBy nat_cmp (linked_of rings)) (circle : now.circle ≡ i)
    (entered : IsEntered planes rings now) (r : Ring) (listed : Contains rings r) (plane : r.plane ≡ i) where
  pub ring_is : entered.at.ring ≡ r
  ring_is = one_ring rings entered.at.ring r sorted entered.at.listed listed (entered.at.plane ∙ (circle ∙ sym plane))

  pub place_small : now.place < length r.stops
  place_small = subst (λ (q : Ring). now.place < length q.stops) ring_is
      (slice_get_within entered.at.ring.stops now.place entered.stop entered.at.is)

  -- the stop where the walk stands, in that ring
  abbrev pub stop_in : IsStopAt rings i now.place entered.stop
  stop_in = record {
    ring = r;
    listed = listed;
    plane = plane;
    is = subst (λ (q : Ring). slice_get q.stops now.place ≡ Some entered.stop) ring_is entered.at.is;
  }

  module _ {place : ℕ} (next : AtStop rings now (λ s at. place ≡ (now.place + 1) % length at.ring.stops)) where
    next_is : place ≡ (now.place + 1) % length r.stops
    next_is = next entered.stop entered.at entered.node ∙ ap (λ (q : Ring). (now.place + 1) % length q.stops) ring_is

    pub at_end : {on : Bool} → on ≡ false → (place ≢ 0 → IsTrue on) → now.place + 1 ≡ length r.stops
    at_end {on} e back = ⊎_elim {C = now.place + 1 ≡ length r.stops} (λ h. h.0)
        (λ h. absurd (false_test_clash on e (back (λ z.
        let m = sym next_is ∙ z in let f = h.1 in omega (arith, m, f)))))
        (around now.place (length r.stops) place_small)

    pub goes_on : {on : Bool} → on ≡ true → (IsTrue on → place ≢ 0) → place ≡ now.place + 1
    goes_on e onward = ⊎_elim {C = place ≡ now.place + 1} (λ h. absurd (onward e (next_is ∙ h.1)))
        (λ h. next_is ∙ h.1) (around now.place (length r.stops) place_small)

pub nothing_yet : {parts : List Part} {planes : List V3} {w : PartSet} {i m : ℕ} {stops : List RingStop} → m ≡ 0
    → IsBest parts planes w i stops m None
nothing_yet z = record {
  right = λ f e. absurd (none_some f e);
  least = λ k s e lt. absurd (omega (arith, lt, z));
}
