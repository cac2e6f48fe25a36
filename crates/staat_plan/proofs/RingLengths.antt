-- The lengths of the circles so far.
use Rattle.std.specs.{List.Sorted.IsStrictlySortedBy, Ordering.nat_cmp, Prelude.nat_lt}
use Rattle.std.proofs.lemmas.List.Sums.{sum_by-cons, sum_by-le-sum_by}
use Rattle.std.proofs.Common.{◌≡◌, ⊎_elim, ℕ, ◌+◌, ◌<◌, ◌≤◌, arith, ap, sym, subst, ◌∙◌, refl, List, [], ◌∷◌, length, Contains, cond}
use Rattle.staat_vec.proofs.{Comparisons.{head_less, tail_sorted}, ListLaws.Contains-map}
use Rattle.staat_vec.proofs.Naturals.{lt_test_false, lt_test, lt_or_le, trichotomy}
use Rattle.staat_vec.proofs.Unique.{Contains-cases, Contains-front, Contains-later, Contains-nothing}
use Rattle.staat_ring.specs.Rings.{Ring, linked_of}
use Rattle.staat_plan.specs.RingSearches.{lengths_below}

abbrev share : ℕ → Ring → ℕ
share k r = cond (nat_lt r.plane k) (length r.stops) 0

share_in : (k : ℕ) (r : Ring) → r.plane < k → share k r ≡ length r.stops
share_in k r lt = ap (λ b. cond b (length r.stops) 0) (lt_test r.plane k lt)

share_out : (k : ℕ) (r : Ring) → k ≤ r.plane → share k r ≡ 0
share_out k r le = ap (λ b. cond b (length r.stops) 0) (lt_test_false r.plane k le)

-- from the circle of k on nothing comes before k
pub lengths_past : (k : ℕ) (rings : List Ring) → ((r : Ring) → Contains rings r → k ≤ r.plane) → lengths_below k rings ≡ 0
unfolding lengths_below
lengths_past k [] h = refl
lengths_past k (r ∷ rings) h = let a = share_out k r (h r (Contains-front r rings)) in let b = lengths_past k rings (λ q c. h q (Contains-later r rings q c)) in omega (arith, a, b, sum_by-cons (share k) r rings)

-- with the circle of k
pub lengths_with : (k : ℕ) (rings : List Ring) (r : Ring) → IsStrictlySortedBy nat_cmp (linked_of rings) → Contains rings r → r.plane ≡ k → lengths_below (k + 1) rings ≡ lengths_below k rings + length r.stops
unfolding lengths_below
lengths_with k [] r s c e = absurd (Contains-nothing r c)
lengths_with k (q ∷ rings) r s c e = ⊎_elim {C = lengths_below (k + 1) (q ∷ rings) ≡ lengths_below k (q ∷ rings) + length r.stops}
    (λ is.
    let p : q.plane ≡ k = ap (λ (x : Ring). x.plane) (sym is) ∙ e in
    let a = share_in (k + 1) q (omega (arith, p)) in
    let b = share_out k q (omega (arith, p)) in
    let m = ap (λ (x : Ring). length x.stops) is in
    let after : (x : Ring) → Contains rings x → k + 1 ≤ x.plane = λ x cx. (let lt = head_less q.plane (linked_of rings) x.plane s (Contains-map (λ r. r.plane) rings x cx) in omega (arith, lt, p)) in
    let t = lengths_past (k + 1) rings after in
    let u = lengths_past k rings (λ x cx. let h = after x cx in omega (arith, h)) in
    omega (arith, a, b, m, t, u, sum_by-cons (share (k + 1)) q rings, sum_by-cons (share k) q rings))
    (λ later.
    let lt = head_less q.plane (linked_of rings) r.plane s (Contains-map (λ r. r.plane) rings r later) in
    let a = share_in (k + 1) q (omega (arith, lt, e)) in
    let b = share_in k q (omega (arith, lt, e)) in
    let rest = lengths_with k rings r (tail_sorted q.plane (linked_of rings) s) later e in
    omega (arith, a, b, rest, sum_by-cons (share (k + 1)) q rings, sum_by-cons (share k) q rings))
    (Contains-cases q rings r c)

-- where k has no circle
pub lengths_without : (k : ℕ) (rings : List Ring) → (Contains (linked_of rings) k → ⊥) → lengths_below (k + 1) rings ≡ lengths_below k rings
unfolding lengths_below
lengths_without k [] none = refl
lengths_without k (q ∷ rings) none =
    let rest = lengths_without k rings (λ c. none (Contains-later q.plane (linked_of rings) k c)) in
    let same : share (k + 1) q ≡ share k q = ⊎_elim {C = share (k + 1) q ≡ share k q} (λ lt. share_in (k + 1) q (omega (arith, lt)) ∙ sym (share_in k q lt))
    (λ o. ⊎_elim {C = share (k + 1) q ≡ share k q} (λ e. absurd (none (subst (Contains (linked_of (q ∷ rings))) e (Contains-front q.plane (linked_of rings))))) (λ gt. share_out (k + 1) q (omega (arith, gt)) ∙ sym (share_out k q (omega (arith, gt)))) o)
    (trichotomy q.plane k) in
    omega (arith, rest, same, sum_by-cons (share (k + 1)) q rings, sum_by-cons (share k) q rings)

pub lengths_rise : (j k : ℕ) (rings : List Ring) → j ≤ k → lengths_below j rings ≤ lengths_below k rings
unfolding lengths_below
lengths_rise j k rings le = sum_by-le-sum_by (share j) (share k) rings (λ q. ⊎_elim {C = share j q ≤ share k q}
    (λ lt. let a = share_in j q lt in let b = share_in k q (omega (arith, lt, le)) in omega (arith, a, b))
    (λ ge. let a = share_out j q ge in omega (arith, a)) (lt_or_le q.plane j))
