-- A half circle that rises, followed by its negatives, is the circle.
use Rattle.std.proofs.Common.{◌≡◌, ◌↔◌, ⊎_elim, ℕ, ◌<◌, ◌+◌, ◌-◌, ◌%◌, refl, sym, ap, subst, ◌∙◌, arith, pos, ◌<ℤ◌, List, [], ◌++◌, All, map, length, get_or, ◌⊎◌, inl, inr, Contains, Some}
use Rattle.std.specs.Prelude.{slice_get}
use Rattle.std.specs.Ordering.{nat_cmp}
use Rattle.std.proofs.lemmas.Int.{ints}
use Rattle.std.proofs.lemmas.List.{get_or-append-add, get_or_append_left, get_or_default, get_or-map, length-append, length-map}
use Rattle.std.proofs.lemmas.List.Elements.{Contains-append_cases, Contains-append_left, Contains-append_right}
use Rattle.std.proofs.lemmas.Option.{get_or_from_slice_get, slice_get-get_or, slice_get_within}
use Rattle.staat_vec.specs.declared.vector.V3.{V3}
use Rattle.staat_vec.specs.Vectors.{cross, negative, origin}
use Rattle.staat_vec.specs.Primitives.{primitive}
use Rattle.staat_vec.specs.Lists.{Lists, ListsOnce}
use Rattle.staat_model.proofs.Members.{All-from_members}
use Rattle.staat_model.specs.Circles.{Stop, IsLinked, IsOnCircle, IsNext, IsCircle, IsAfter, PassesThrough, axis_beside}
use Rattle.staat_ring.proofs.Steps.{following, NextBy, turn, turn_back, turn_same, turn_negative_left, turn_negative_right}
use Rattle.staat_vec.proofs.Integers.{zero_not_positive}
use Rattle.staat_vec.proofs.Naturals.{lt_or_le, trichotomy}
use Rattle.staat_vec.proofs.ListLaws.{Contains-from_map, Contains-map}
use Rattle.staat_vec.proofs.Canons.{negative-negative}

abbrev at : List V3 → ℕ → V3
at vs k = get_or vs k origin

-- the half circle and its negatives
abbrev pub whole_circle : List V3 → List V3
whole_circle hs = hs ++ map negative hs

-- v is on the half circle, or its negative is
pub record IsOfHalf (hs : List V3) (v : V3) : Type 0 where
  pub vertex : V3
  pub listed : Contains hs vertex
  pub same : (v ≡ vertex) ⊎ (v ≡ negative vertex)

-- The vertices of the half turn from the start; the circle is these and their negatives.
pub record IsHalf (table : List V3) (linked : List ℕ) (c : ℕ) (g axis : V3) (hs : List V3) : Type 0 where
  -- each vector lies on the half turn from each earlier one
  pub rises : (i k : ℕ) → i < k → k < length hs → pos 0 <ℤ turn g (at hs i) (at hs k)
  pub two : 1 < length hs
  pub start : at hs 0 ≡ primitive (cross g axis)
  pub each : (v : V3) → Contains hs v → IsOnCircle table linked c g v
  pub all : (v : V3) → IsOnCircle table linked c g v → IsOfHalf hs v

-- the negative of a crossing is one
pub crossing_turned : (table : List V3) (linked : List ℕ) (c : ℕ) (g v : V3) → IsOnCircle table linked c g v → IsOnCircle table linked c g (negative v)
crossing_turned table linked c g v x = record {
  other = x.other;
  h = x.h;
  other_is = x.other_is;
  different = x.different;
  is = elim x.is [ inl e ↦ inr (ap negative e) | inr e ↦ inl (ap negative e ∙ negative-negative (primitive (cross g x.h))) ];
}

module _ (table : List V3) (linked : List ℕ) (c : ℕ) (g axis : V3) (hs : List V3) (half : IsHalf table linked c g axis hs) where
  abbrev n : ℕ
  n = length hs

  abbrev all : List V3
  all = whole_circle hs

  size : length all ≡ n + n
  size = length-append hs (map negative hs) ∙ ap (λ m. n + m) (length-map hs negative)

  -- ---- what is on the circle

  around : (v : V3) → Contains all v ↔ IsOfHalf hs v
  around v = (
    λ cv. ⊎_elim {C = IsOfHalf hs v} (λ a. record { vertex = v; listed = a; same = inl refl })
        (λ b. let (u, cu, e) = Contains-from_map negative hs v b in record { vertex = u; listed = cu; same = inr (sym e) })
        (Contains-append_cases hs (map negative hs) v cv),
    λ o. ⊎_elim {C = Contains all v} (λ e. Contains-append_left hs (map negative hs) v (subst (Contains hs) (sym e) o.listed))
        (λ e. Contains-append_right hs (map negative hs) v (subst (Contains (map negative hs)) (sym e) (Contains-map negative hs o.vertex o.listed)))
        o.same,
  )

  each_on : (v : V3) → Contains all v → IsOnCircle table linked c g v
  each_on v cv =
      let o = (around v).0 cv in
      ⊎_elim {C = IsOnCircle table linked c g v} (λ e. subst (IsOnCircle table linked c g) (sym e) (half.each o.vertex o.listed))
      (λ e. subst (IsOnCircle table linked c g) (sym e) (crossing_turned table linked c g o.vertex (half.each o.vertex o.listed)))
      o.same

  -- ---- the order of its places

  -- a place of the circle, by that of the half circle on whose line it lies
  place : (k : ℕ) → k < n + n → (j : ℕ) × (j < n) × (((k ≡ j) × (at all k ≡ at hs j)) ⊎ ((k ≡ n + j) × (at all k ≡ negative (at hs j))))
  place k lt = ⊎_elim {C = (j : ℕ) × (j < n) × (((k ≡ j) × (at all k ≡ at hs j)) ⊎ ((k ≡ n + j) × (at all k ≡ negative (at hs j))))}
      (λ low. (k, low, inl (refl, get_or_append_left hs (map negative hs) origin k low)))
      (λ high.
      let e : k ≡ n + (k - n) = omega (arith, high) in
      let lj : k - n < n = omega (arith, lt, high) in
      (k - n, lj, inr (e, ap (at all) e ∙ get_or-append-add hs (map negative hs) (k - n) origin ∙ get_or-map negative hs (k - n) origin origin lj)))
      (lt_or_le k n)

  earlier : (j m : ℕ) → j < n → m < n → (pos 0 <ℤ turn g (at hs j) (at hs m)) ↔ (j < m)
  earlier j m lj lm = (
    λ h. ⊎_elim {C = j < m} (λ lt. lt) (λ o. absurd (⊎_elim {C = ⊥}
        (λ e. zero_not_positive (turn g (at hs j) (at hs m)) (ap (λ k. turn g (at hs j) (at hs k)) (sym e) ∙ turn_same g (at hs j)) h)
        (λ gt. let r = half.rises m j gt lj in let b = turn_back g (at hs j) (at hs m) in omega (arith, ints))
        o)) (trichotomy j m),
    λ lt. half.rises j m lt lm,
  )

  -- the place k is on the half turn from the place i
  abbrev Follows : ℕ → ℕ → Type 0
  Follows i k = ((i < k) × (k < i + n)) ⊎ (k + n < i)

  turns : (i k : ℕ) → i < n + n → k < n + n → (pos 0 <ℤ turn g (at all i) (at all k)) ↔ Follows i k
  turns i k li lk = let (j, lj, p) = place i li in let (m, lm, q) = place k lk in by j m lj lm p q
    where
      signs : (j m : ℕ) → j < n → m < n → turn g (at all i) (at all k) ≡ turn g (at hs j) (at hs m) → (pos 0 <ℤ turn g (at all i) (at all k)) ↔ (j < m)
      signs j m lj lm e = subst (λ z. (pos 0 <ℤ z) ↔ (j < m)) (sym e) (earlier j m lj lm)

      by : (j m : ℕ) → j < n → m < n → ((i ≡ j) × (at all i ≡ at hs j)) ⊎ ((i ≡ n + j) × (at all i ≡ negative (at hs j)))
          → ((k ≡ m) × (at all k ≡ at hs m)) ⊎ ((k ≡ n + m) × (at all k ≡ negative (at hs m))) → (pos 0 <ℤ turn g (at all i) (at all k)) ↔ Follows i k
      by j m lj lm (inl (e, a)) (inl (f, b)) =
          let s = signs j m lj lm (λ x. turn g (a x) (b x)) in
          (λ h. let l = s.0 h in inl (omega (arith, l, e, f), omega (arith, lm, e, f)), λ o. s.1 (omega (arith, o, e, f, lj, lm)))
      by j m lj lm (inl (e, a)) (inr (f, b)) =
          let s = signs m j lm lj ((λ x. turn g (a x) (b x)) ∙ turn_negative_right g (at hs j) (at hs m) ∙ sym (turn_back g (at hs m) (at hs j))) in
          (λ h. let l = s.0 h in inl (omega (arith, lj, e, f), omega (arith, l, e, f)), λ o. s.1 (omega (arith, o, e, f, lj, lm)))
      by j m lj lm (inr (e, a)) (inl (f, b)) =
          let s = signs m j lm lj ((λ x. turn g (a x) (b x)) ∙ turn_negative_left g (at hs j) (at hs m) ∙ sym (turn_back g (at hs m) (at hs j))) in
          (λ h. let l = s.0 h in inr (omega (arith, l, e, f)), λ o. s.1 (omega (arith, o, e, f, lj, lm)))
      by j m lj lm (inr (e, a)) (inr (f, b)) =
          let s = signs j m lj lm ((λ x. turn g (a x) (b x)) ∙ (let l = turn_negative_left g (at hs j) (negative (at hs m)) in let r = turn_negative_right g (at hs j) (at hs m) in omega (arith, ints, l, r))) in
          (λ h. let l = s.0 h in inl (omega (arith, l, e, f), omega (arith, lm, e, f)), λ o. s.1 (omega (arith, o, e, f, lj, lm)))

  once : (i k : ℕ) → i < k → k < n + n → at all i ≡ at all k → ⊥
  once i k lt lk e =
      let two = half.two in
      let li : i < n + n = omega (arith, lt, lk) in
      let ln : i + 1 < n + n = omega (arith, lt, lk) in
      let next = (turns k (i + 1) lk ln).0 (subst (λ v. pos 0 <ℤ turn g v (at all (i + 1))) e ((turns i (i + 1) li ln).1 (inl (omega arith, omega (arith, two))))) in
      ⊎_elim {C = ⊥} (λ far. zero_not_positive (turn g (at all k) (at all i)) (ap (turn g (at all k)) e ∙ turn_same g (at all k)) ((turns k i lk li).1 (inr far)))
      (λ le. omega (arith, next, le, lt))
      (lt_or_le (i + n) k)

  -- each vertex and the one that follows it in the list, the list being cyclic
  next : (k m : ℕ) → k < n + n → m < n + n → (m ≡ k + 1) ⊎ ((k + 1 ≡ n + n) × (m ≡ 0)) → NextBy (Contains all) g (at all k) (at all m)
  next k m lk lm e = record {
    after = (turns k m lk lm).1 (let two = half.two in ⊎_elim {C = Follows k m} (λ e. inl (omega (arith, e), omega (arith, e, two))) (λ e. inr (omega (arith, e.0, e.1, two))) e);
    none = λ u (p, lp, at_p) vu uw.
        let within : p < n + n = omega (arith, lp, size) in
        let is = sym (get_or_default all p origin u lp ∙ at_p) in
        let x = (turns k p lk within).0 (subst (λ y. pos 0 <ℤ turn g (at all k) y) is vu) in
        let y = (turns p m within lm).0 (subst (λ y. pos 0 <ℤ turn g y (at all m)) is uw) in
        omega (arith, x, y, e, lk, lm, within);
  }

  module _ (stops : List Stop) (gi : IsLinked table linked c g) (ai : IsLinked table linked (axis_beside c) axis) (vs : map (λ s. s.vertex) stops ≡ all)
      (through : All (λ s. Lists nat_cmp (PassesThrough table linked c s.vertex) s.through) stops) where
    count : length stops ≡ n + n
    count = sym (length-map stops (λ s. s.vertex)) ∙ ap length vs ∙ size

    vertex_at : (k : ℕ) (s : Stop) → slice_get stops k ≡ Some s → at all k ≡ s.vertex
    vertex_at k s e = sym (ap (λ xs. at xs k) vs) ∙ get_or-map (λ s. s.vertex) stops k s origin (slice_get_within stops k s e) ∙ ap (λ s. s.vertex) (get_or_from_slice_get stops k s s e)

    abbrev no_stop : Stop
    no_stop = record { vertex = origin; through = [] }

    first_is : slice_get stops 0 ≡ Some (get_or stops 0 no_stop)
    first_is = slice_get-get_or stops 0 no_stop (let two = half.two in omega (arith, count, two))

    turning : (k : ℕ) (s t : Stop) → slice_get stops k ≡ Some s → slice_get stops ((k + 1) % length stops) ≡ Some t → IsNext g stops s.vertex t.vertex
    turning k s t ks kt =
        let m : ℕ = (k + 1) % length stops in
        let lk = slice_get_within stops k s ks in
        let lm = slice_get_within stops m t kt in
        let step = next k m (omega (arith, lk, count)) (omega (arith, lm, count)) (subst (λ l. (m ≡ k + 1) ⊎ ((k + 1 ≡ l) × (m ≡ 0))) count (following k (length stops) lk)) in
        let is = subst (λ v. NextBy (Contains all) g v t.vertex) (vertex_at k s ks) (subst (NextBy (Contains all) g (at all k)) (vertex_at m t kt) step) in
        record {
          after = is.after;
          nothing_between = All-from_members (λ u. IsAfter g s.vertex u.vertex → IsAfter g u.vertex t.vertex → ⊥) stops (λ u cu. is.none u.vertex (subst (λ xs. Contains xs u.vertex) vs (Contains-map (λ s. s.vertex) stops u cu)));
        }

    same_place : (k m : ℕ) (x : V3) → slice_get all k ≡ Some x → slice_get all m ≡ Some x → k ≡ m
    same_place k m x ks mt =
        let lk = slice_get_within all k x ks in
        let lm = slice_get_within all m x mt in
        let e = get_or_from_slice_get all k x origin ks ∙ sym (get_or_from_slice_get all m x origin mt) in
        ⊎_elim {C = k ≡ m} (λ lt. absurd (once k m lt (omega (arith, lm, size)) e)) (λ o. ⊎_elim {C = k ≡ m} (λ q. q) (λ gt. absurd (once m k gt (omega (arith, lk, size)) (sym e))) o) (trichotomy k m)

    -- the stops at the half circle's vertices and their negatives are the circle
    pub circle_from_half : IsCircle table linked c stops
    circle_from_half = record {
      g = g;
      g_is = gi;
      vertices = subst (ListsOnce (IsOnCircle table linked c g)) (sym vs) (record { each = each_on; all = λ v on. (around v).1 (half.all v on); once = same_place });
      axis = axis;
      axis_is = ai;
      first = get_or stops 0 no_stop;
      first_is = first_is;
      start = sym (vertex_at 0 (get_or stops 0 no_stop) first_is) ∙ get_or_append_left hs (map negative hs) origin 0 (let two = half.two in omega (arith, two)) ∙ half.start;
      turns = turning;
      through = through;
    }
