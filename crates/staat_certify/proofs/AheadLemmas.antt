-- The sign of the plane 0 from one vertex of a circle to the next, and which vertices are canonical by it.
use Rattle.std.proofs.Common.{◌⊎◌, inl, inr, ⊎_elim}
use Rattle.std.proofs.Common.{◌≡◌, ◌≢◌, ◌∙◌, ℕ, zero, suc, ◌+◌, ◌-◌, ◌<◌, ◌<ℤ◌, ◌↔◌, Bool, true, false, List, [], ◌∷◌, Contains, arith, ap, length, pos, negsuc, ℤ, refl, subst, sym}
use Rattle.std.specs.Prelude.{IsTrue, None, Option, Some, map, option_map, slice_get}
use Rattle.std.specs.List.Sorted.{IsStrictlySortedBy}
use Rattle.std.specs.Ordering.{nat_cmp}
use Rattle.std.proofs.lemmas.Int.{ints}
use Rattle.std.proofs.lemmas.List.{length-map}
use Rattle.std.proofs.lemmas.Option.{get_or_from_slice_get, same_Some, slice_get-map, slice_get_within}
use Rattle.staat_vec.specs.declared.vector.V3.{V3}
use Rattle.staat_vec.specs.Primitives.{IsCanon, or_next}
use Rattle.staat_vec.specs.Vectors.{dot, sign, vector}
use Rattle.staat_vec.proofs.Comparisons.{head_less}
use Rattle.staat_vec.proofs.ListLaws.{Contains-map}
use Rattle.staat_vec.proofs.Unique.{Contains-cases, from_place}
use Rattle.staat_vec.proofs.Naturals.{same_or}
use Rattle.staat_pairs.specs.Tables.{AreTablePlanes}
use Rattle.staat_planes.specs.PairOrder.{plane_at}
use Rattle.staat_ring.specs.declared.entry.Entry.{Entry}
use Rattle.staat_ring.specs.CountedSigns.{PlaneState, Signed, no_state, state_at}
use Rattle.staat_ring.specs.Rings.{Ring}
use Rattle.staat_ring.specs.SignChanges.{stop_sign, with_stop_signs}
use Rattle.staat_ring.specs.WholeCircles.{AreSignsAt, IsWholeCircle, no_stop, stop_at, vertex_at}
use Rattle.staat_ring.proofs.CircleStops as circle
use Rattle.staat_ring.proofs.SignAll.{stop_signs_other, stop_signs_there}
use Rattle.staat_ring.proofs.WholeCircles.{all, crossed, ring}
use Rattle.staat_ring.proofs.Stops.{none_parallel}
use Rattle.std.proofs.lemmas.List.Elements.{Contains-get_or}
use Rattle.staat_certify.specs.Visits.{IsToldAhead}

-- the first of ascending entries has the least plane
first_least : (es : List Entry) → IsStrictlySortedBy nat_cmp (map (λ e. e.plane) es) → (f e : Entry) → slice_get es 0 ≡ Some f → Contains es e → (e ≡ f) ⊎ (f.plane < e.plane)
first_least [] s f e at c = absurd (let lt = slice_get_within [] 0 f at in omega (arith, lt))
first_least (x ∷ xs) s f e at c =
    let is = get_or_from_slice_get (x ∷ xs) 0 f f at in
    ⊎_elim {C = (e ≡ f) ⊎ (f.plane < e.plane)} (λ q. inl (q ∙ is))
    (λ later. inr (subst (λ (g : Entry). g.plane < e.plane) is (head_less x.plane (map (λ e. e.plane) xs) e.plane s (Contains-map (λ e. e.plane) xs e later)))) (Contains-cases x xs e c)

-- the planes with their signs at v
abbrev state_of : V3 → V3 → PlaneState
state_of v n = record { sign = sign (dot n v); along = []; against = [] }

abbrev signs_at : List V3 → V3 → Signed
signs_at planes v = record { states = map (state_of v) planes; pairs = [] }

are_signs : (planes : List V3) (v : V3) → AreSignsAt planes (signs_at planes v) v
are_signs planes v j n at = ap (λ s. s.sign) (get_or_from_slice_get (map (state_of v) planes) j (state_of v n) no_state (slice_get-map (state_of v) planes j ∙ ap (option_map (state_of v)) at))

plane_first : (planes : List V3) → AreTablePlanes planes → (slice_get planes 0 ≡ Some (plane_at planes 0)) × (plane_at planes 0 ≡ vector (pos 1) (pos 0) (pos 0))
plane_first planes table = (subst (λ ps. slice_get ps 0 ≡ Some (plane_at ps 0)) (sym table.is) refl, ap (λ ps. plane_at ps 0) table.is)

-- where a circle leaves a stop, the plane 0 gets or keeps the sign that it has at the next, unless it passes there
module _ (planes : List V3) (table : AreTablePlanes planes) (r : Ring) (is : IsWholeCircle planes r) (k : ℕ) (lt : k < length r.stops) (e : Entry)
    (first : slice_get (stop_at r k).entries 0 ≡ Some e) where
  beside : (m : ℕ) → m < length r.stops → (f x : Entry) → slice_get (stop_at r m).entries 0 ≡ Some f → Contains (stop_at r m).entries x → (x ≡ f) ⊎ (f.plane < x.plane)
  beside m small = first_least (stop_at r m).entries
      (circle.entries_ascend planes (all planes) r (none_parallel planes (all planes) table) (ring planes table r is) (stop_at r m) (Contains-get_or r.stops m no_stop small))

  other : (m : ℕ) → m < length r.stops → (f x : Entry) → slice_get (stop_at r m).entries 0 ≡ Some f → Contains (stop_at r m).entries x → f.plane ≢ 0 → x.plane ≢ 0
  other m small f x at c ne q = ⊎_elim {C = ⊥} (λ same. ne (sym (ap (λ (y : Entry). y.plane) same) ∙ q)) (λ less. omega (arith, less, q)) (beside m small f x at c)

  abbrev now : Signed
  now = signs_at planes (vertex_at planes r k)

  pub ahead_next : (before after : Option Bool) → (e.plane ≡ 0 → after ≡ Some e.turned) → (e.plane ≢ 0 → after ≡ before) → IsToldAhead planes r before k → IsToldAhead planes r after (k + 1)
  ahead_next before None passed kept told = tt
  ahead_next before (Some positive) passed kept told = λ small f at ne.
      let es = (stop_at r k).entries in
      let fs = (stop_at r (k + 1)).entries in
      let mid = with_stop_signs true es now in
      let p : V3 = plane_at planes 0 in
      let size = length-map planes (state_of (vertex_at planes r k)) in
      let step : AreSignsAt planes (with_stop_signs false fs mid) (vertex_at planes r (k + 1)) =
      subst (λ m. AreSignsAt planes now (vertex_at planes r m) → AreSignsAt planes (with_stop_signs false fs (with_stop_signs true (stop_at r m).entries now)) (vertex_at planes r (k + 1)))
      (let m : k + 1 - 1 ≡ k = omega arith in m) (crossed planes table r is (k + 1) (omega arith) small now size) (are_signs planes (vertex_at planes r k)) in
      let behind : (state_at mid.states 0).sign ≡ stop_sign true positive = ⊎_elim {C = (state_at mid.states 0).sign ≡ stop_sign true positive}
      (λ z. stop_signs_there true es now 0 (stop_sign true positive) (omega (arith, size, slice_get_within planes 0 p (plane_first planes table).0))
      (λ x cx q. ap (stop_sign true) (⊎_elim {C = x.turned ≡ positive} (λ same. ap (λ (y : Entry). y.turned) same ∙ sym (same_Some positive e.turned (passed z)))
      (λ less. absurd (omega (arith, less, q))) (beside k lt e x first cx)))
      e (from_place es 0 e first) z)
      (λ nz. stop_signs_other true es now 0 (λ x cx. other k lt e x first cx nz) ∙ (are_signs planes (vertex_at planes r k) 0 p (plane_first planes table).0
      ∙ subst (λ a. IsToldAhead planes r a k) (sym (kept nz)) told lt e first nz))
      (same_or e.plane 0) in
      sym (step 0 p (plane_first planes table).0) ∙ (stop_signs_other false fs mid 0 (λ x cx. other (k + 1) small f x at cx ne) ∙ behind)

-- a vertex is canonical where the plane 0 is positive, and is not where it is negative
pub canon_ahead : (planes : List V3) → AreTablePlanes planes → (v : V3) (positive : Bool) → sign (dot (plane_at planes 0) v) ≡ stop_sign true positive → IsTrue positive ↔ IsCanon v
canon_ahead planes table v positive told = go v.x (or_next v.y v.z) positive
    (ap sign (let e : dot (vector (pos 1) (pos 0) (pos 0)) v ≡ v.x = omega (arith, ints) in sym e ∙ ap (λ n. dot n v) (sym (plane_first planes table).1)) ∙ told)
  where
    go : (x next : ℤ) (b : Bool) → sign x ≡ stop_sign true b → IsTrue b ↔ (pos 0 <ℤ or_next x next)
    go (pos zero) next false e = absurd (cc)
    go (pos zero) next true e = absurd (cc)
    go (pos (suc n)) next false e = absurd (cc)
    go (pos (suc n)) next true e = (λ t. omega (arith, ints), λ h. refl)
    go (negsuc n) next false e = (λ t. absurd (cc), λ h. absurd (omega (arith, ints, h)))
    go (negsuc n) next true e = absurd (cc)
