-- The planes of a set of parts, by their numbers in a table of a larger set.
use Rattle.std.proofs.Common.{◌≡◌, ◌≢◌, ◌↔◌, inl, inr, ⊎_elim, ℕ, zero, suc, ◌+◌, ◌-◌, ◌<◌, ◌≤◌, arith, ap, sym, subst, ◌∙◌, refl, Bool, List, [], ◌∷◌, ◌++◌, length, length-append, get_or, map, Contains}
use Rattle.std.specs.Prelude.{Some, slice_get}
use Rattle.std.specs.Ordering.{nat_cmp}
use Rattle.std.specs.List.Sorted.{IsStrictlySortedBy}
use Rattle.std.proofs.lemmas.Bool.{cases_lt}
use Rattle.std.proofs.lemmas.List.{get_or_append_left, get_or-append_right, get_or_default, get_or-map, length-map}
use Rattle.std.proofs.lemmas.List.Elements.{All-contains, All-map}
use Rattle.std.proofs.lemmas.Option.{get_or_from_slice_get, slice_get-get_or}
use Rattle.staat_vec.specs.declared.vector.V3.{V3}
use Rattle.staat_vec.specs.Lists.{Lists}
use Rattle.staat_vec.specs.Vectors.{origin, vector_cmp}
use Rattle.staat_vec.proofs.Naturals.{add_three_back}
use Rattle.staat_vec.proofs.Comparisons.{head_less, tail_sorted, sorted_begins}
use Rattle.staat_vec.proofs.ListLaws.{Contains-map}
use Rattle.staat_vec.proofs.Unique.{Contains-later, from_place}
use Rattle.staat_vec.proofs.VectorLists.{sorted_places, picked_sorted}
use Rattle.staat_model.specs.declared.assembly.Part.{Part}
use Rattle.staat_model.specs.declared.set.PartSet.{PartSet}
use Rattle.staat_model.specs.Planes.{ArePlanes, IsFacetPlane, axes}
use Rattle.staat_model.specs.Sets.{IsSubset}
use Rattle.staat_model.proofs.Differences.{from_map}
use Rattle.staat_model.proofs.Members.{All-from_members}
use Rattle.staat_model.proofs.Places.{place_within}
use Rattle.staat_pairs.specs.Tables.{AreTablePlanes, IsPlaneNormal, Table, WasMadeFrom}
use Rattle.staat_planes.specs.MarkedPlanes.{AreUsedMarks, IsPlaneMarked}
use Rattle.staat_planes.specs.PairOrder.{AreRisingNumbers, plane_at, planes_at}
use Rattle.staat_planes.specs.SetPlanes.{ArePlanesIn}
use Rattle.staat_planes.specs.Tables.{IsPlaneOf}

-- ---- ascending numbers

pub places_rise : (ks : List ℕ) (i j : ℕ) → IsStrictlySortedBy nat_cmp ks → i < j → j < length ks → get_or ks i 0 < get_or ks j 0
places_rise [] i j s lt small = absurd (omega arith)
places_rise (k ∷ ks) zero zero s lt small = absurd (omega arith)
places_rise (k ∷ ks) zero (suc j) s lt small = head_less k ks (get_or ks j 0) s (j, omega arith, get_or_default ks j (get_or ks j 0) 0 (omega arith))
places_rise (k ∷ ks) (suc i) zero s lt small = absurd (omega arith)
places_rise (k ∷ ks) (suc i) (suc j) s lt small = places_rise ks i j (tail_sorted k ks s) (omega arith) (omega arith)

-- ---- the planes with these numbers, the axes among them

other_place : (planes others : List V3) → planes ≡ axes ++ others → (k : ℕ) → 3 ≤ k → plane_at planes k ≡ get_or others (k - 3) origin
other_place planes others is k le = ap (λ ps. get_or ps k origin) is ∙ get_or-append_right axes others 3 k origin refl le

-- the numbers begin with those of the axes
record BeginWithAxes (ks : List ℕ) : Type 0 where
  rest : List ℕ
  is : ks ≡ 0 ∷ 1 ∷ 2 ∷ rest
  ascending : IsStrictlySortedBy nat_cmp rest
  greater : (k : ℕ) → Contains rest k → 3 ≤ k
  all : (k : ℕ) → Contains ks k → 3 ≤ k → Contains rest k

begin_with_axes : (ks : List ℕ) → IsStrictlySortedBy nat_cmp ks → ((k : ℕ) → k < 3 → Contains ks k) → BeginWithAxes ks
begin_with_axes ks ascending axes_in =
    let a = sorted_begins 0 ks ascending (λ k c. omega arith) (axes_in 0 (omega arith)) in
    let b = sorted_begins 1 a.0 a.2 a.3 (a.4 1 (axes_in 1 (omega arith)) (omega arith)) in
    let c = sorted_begins 2 b.0 b.2 b.3 (b.4 2 (a.4 2 (axes_in 2 (omega arith)) (omega arith)) (omega arith)) in
    record {
      rest = c.0;
      is = a.1 ∙ ap (λ r. 0 ∷ r) (b.1 ∙ ap (λ r. 1 ∷ r) c.1);
      ascending = c.2;
      greater = c.3;
      all = λ k ck le. c.4 k (b.4 k (a.4 k ck (omega (arith, le))) (omega (arith, le))) (omega (arith, le));
    }

-- so do the planes, and they go on with some of the others, ascending
record AreBegun (planes others : List V3) (ks : List ℕ) : Type 0 where
  rest : List ℕ
  is : planes_at planes ks ≡ axes ++ map (plane_at planes) rest
  ascending : IsStrictlySortedBy vector_cmp (map (plane_at planes) rest)
  each : (k : ℕ) → Contains rest k → Contains ks k × Contains others (plane_at planes k)
  all : (k : ℕ) → Contains ks k → 3 ≤ k → Contains rest k

numbered_begin : (planes others : List V3) → planes ≡ axes ++ others → IsStrictlySortedBy vector_cmp others → (ks : List ℕ) → AreRisingNumbers planes ks → ((k : ℕ) → k < 3 → Contains ks k) → AreBegun planes others ks
numbered_begin planes others is ascending ks numbers axes_in = record {
  rest = begun.rest;
  is = ap (planes_at planes) begun.is ∙ (λ i. axis_is 0 (omega arith) i ∷ axis_is 1 (omega arith) i ∷ axis_is 2 (omega arith) i ∷ map (plane_at planes) begun.rest);
  ascending = picked_sorted (plane_at planes) begun.rest begun.ascending
      (λ i j ci cj lt. (λ d. vector_cmp (other_place planes others is i (begun.greater i ci) d) (other_place planes others is j (begun.greater j cj) d))
      ∙ sorted_places others (i - 3) (j - 3) ascending (let le = begun.greater i ci in omega (arith, le, lt)) (small j cj));
  each = λ k c. (rest_in k c, (k - 3, small k c, get_or_default others (k - 3) (plane_at planes k) origin (small k c) ∙ sym (other_place planes others is k (begun.greater k c))));
  all = begun.all;
}
  where
    begun : BeginWithAxes ks
    begun = begin_with_axes ks numbers.ascending axes_in

    axis_is : (k : ℕ) → k < 3 → plane_at planes k ≡ get_or axes k origin
    axis_is k lt = ap (λ ps. get_or ps k origin) is ∙ get_or_append_left axes others origin k lt

    rest_in : (k : ℕ) → Contains begun.rest k → Contains ks k
    rest_in k c = subst (λ xs. Contains xs k) (sym begun.is) (Contains-later 0 (1 ∷ 2 ∷ begun.rest) k (Contains-later 1 (2 ∷ begun.rest) k (Contains-later 2 begun.rest k c)))

    small : (k : ℕ) → Contains begun.rest k → k - 3 < length others
    small k c =
        let lt = numbers.small k (rest_in k c) in
        let le = begun.greater k c in
        let e = ap length is in omega (arith, lt, le, e, length-append axes others)

-- ---- they keep the rules of the table's planes

module _ (planes : List V3) (are : AreTablePlanes planes) (ks : List ℕ) (numbers : AreRisingNumbers planes ks) (axes_in : (k : ℕ) → k < 3 → Contains ks k) where
  place_of : (k : ℕ) → k < length planes → slice_get planes k ≡ Some (plane_at planes k)
  place_of k lt = slice_get-get_or planes k origin lt

  -- the plane at a place of the list, in the table
  number_at : (i : ℕ) (g : V3) → slice_get (planes_at planes ks) i ≡ Some g → (i < length ks) × (slice_get planes (get_or ks i 0) ≡ Some g)
  number_at i g e =
      let within = place_within (planes_at planes ks) i g e in
      let lt : i < length ks = omega (arith, within, length-map ks (plane_at planes)) in
      let is : plane_at planes (get_or ks i 0) ≡ g = sym (get_or-map (plane_at planes) ks i 0 origin lt) ∙ get_or_from_slice_get (planes_at planes ks) i g origin e in
      (lt, place_of (get_or ks i 0) (numbers.small (get_or ks i 0) (i, lt, get_or_default ks i (get_or ks i 0) 0 lt)) ∙ ap (λ x. Some x) is)

  different : (i j : ℕ) → i < length ks → j < length ks → i ≢ j → get_or ks i 0 ≡ get_or ks j 0 → ⊥
  different i j lti ltj ne e = ⊎_elim {C = ⊥}
      (λ lt. let rise = places_rise ks i j numbers.ascending lt ltj in omega (arith, rise, e))
      (λ le. let rise = places_rise ks j i numbers.ascending (omega (arith, le, ne)) lti in omega (arith, rise, e))
      (cases_lt i j)

  numbered_rules : AreTablePlanes (planes_at planes ks)
  numbered_rules =
      let begun = numbered_begin planes are.others are.is are.ascending ks numbers axes_in in record {
        others = map (plane_at planes) begun.rest;
        is = begun.is;
        ascending = begun.ascending;
        each = All-map IsPlaneNormal (plane_at planes) ks (All-from_members (λ k. IsPlaneNormal (plane_at planes k)) ks
            (λ k c. All-contains IsPlaneNormal planes (plane_at planes k) are.each (from_place planes k (plane_at planes k) (place_of k (numbers.small k c)))));
        apart = λ i j g h ati atj ne.
            let a = number_at i g ati in
            let b = number_at j h atj in are.apart (get_or ks i 0) (get_or ks j 0) g h a.1 b.1 (different i j a.0 b.0 ne);
      }

-- ---- they are the planes of a set of parts

module _ (parts : List Part) (t : Table) (w : PartSet) (ks : List ℕ) (made : WasMadeFrom parts t) (within : IsSubset w t.of) (numbers : AreRisingNumbers t.planes ks)
    (used : (k : ℕ) (n : V3) → slice_get t.planes k ≡ Some n → Contains ks k ↔ IsPlaneOf parts w n) where
  abbrev others : List V3
  others = made.planes.others

  axis_in : (k : ℕ) → k < 3 → Contains ks k
  axis_in k lt =
      let n = get_or axes k origin in
      let is : slice_get t.planes k ≡ Some n = subst (λ ps. slice_get ps k ≡ Some n) (sym made.planes.is) (slice_get-get_or (axes ++ others) k origin (omega (arith, lt, length-append axes others)) ∙ ap (λ x. Some x) (get_or_append_left axes others origin k lt)) in
      (used k n is).1 (inl (k, lt, get_or_default axes k n origin lt))

  pub numbered_planes : ArePlanes parts w (planes_at t.planes ks)
  numbered_planes =
      let begun = numbered_begin t.planes others made.planes.is made.planes.others_are.ascending ks numbers axis_in in record {
        others = map (plane_at t.planes) begun.rest;
        others_are = record {
          ascending = begun.ascending;
          each = λ n c.
              let m = from_map (plane_at t.planes) begun.rest n c in
              let g = plane_at t.planes m.0 in
              let listed = begun.each m.0 m.1 in
              let no_axis : Contains axes g → ⊥ = (made.planes.others_are.each g listed.1).1 in
              let plane = (used m.0 g (slice_get-get_or t.planes m.0 origin (numbers.small m.0 listed.0))).0 listed.0 in
              subst (λ v. IsFacetPlane parts w v × (Contains axes v → ⊥)) (sym m.2) (⊎_elim {C = IsFacetPlane parts w g} (λ axis. absurd (no_axis axis)) (λ f. f) plane, no_axis);
          all = λ n h.
              let f = h.0 in
              let in_of : IsFacetPlane parts t.of n = record { arc = f.arc; facet = f.facet; a_in = within f.arc.a f.a_in; b_in = within f.arc.b f.b_in; different = f.different; holds = f.holds; is = f.is } in
              let (m, lt, e) = made.planes.others_are.all n (in_of, h.1) in
              let k : ℕ = m + 3 in
              let long = ap length made.planes.is in
              let is : plane_at t.planes k ≡ n = other_place t.planes others made.planes.is k (omega arith) ∙ (ap (λ i. get_or others i origin) (add_three_back m) ∙ (get_or_default others m origin n lt ∙ e)) in
              let place : slice_get t.planes k ≡ Some n = slice_get-get_or t.planes k origin (omega (arith, long, lt, length-append axes others)) ∙ ap (λ x. Some x) is in
              subst (Contains (map (plane_at t.planes) begun.rest)) is (Contains-map (plane_at t.planes) begun.rest k (begun.all k ((used k n place).1 (inr f)) (omega arith)));
        };
        is = begun.is;
      }

-- ---- those that are marked

-- the numbers of all marked planes
module _ (t : Table) (w : PartSet) (marks : List Bool) (ks : List ℕ) (are : AreUsedMarks t w marks) (below : Lists nat_cmp (λ k. (k < length t.planes) × IsPlaneMarked marks k) ks) where
  pub marked_rise : AreRisingNumbers t.planes ks
  marked_rise = record { ascending = below.ascending; small = λ k c. (below.each k c).0 }

  pub marked_planes : AreTablePlanes t.planes → IsSubset w t.of → length ks ≤ length t.planes → ArePlanesIn t w (planes_at t.planes ks)
  marked_planes rules within few = record {
    rules = numbered_rules t.planes rules ks marked_rise
        (λ k lt. below.all k (let e = ap length rules.is in omega (arith, lt, e, length-append axes rules.others), are.axes k lt));
    few = omega (arith, few, length-map ks (plane_at t.planes));
    are = λ parts made. numbered_planes parts t w ks made within marked_rise
        (λ k n at. (λ c. (are.each parts k n made at).0 (below.each k c).1, λ p. below.all k (place_within t.planes k n at, (are.each parts k n made at).1 p)));
  }
