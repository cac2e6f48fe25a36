-- Entries in order, divided where their crossings differ, and their opposites are the circle.
use Rattle.std.proofs.Common.{◌≡◌, ◌≢◌, ◌⊎◌, ◌↔◌, inl, inr, ⊎_elim, ℕ, zero, suc, ◌+◌, ◌-◌, ◌<◌, ◌≤◌, Bool, true, false, not, arith, ap, sym, subst, ◌∙◌, refl, List, [], ◌∷◌, ◌++◌, length, get_or, All, Contains, pos, ◌<ℤ◌}
use Rattle.std.specs.Prelude.{Some, map, slice_get}
use Rattle.std.specs.List.Sorted.{IsStrictlySortedBy}
use Rattle.std.specs.Ordering.{nat_cmp}
use Rattle.std.specs.declared.cmp.Ordering.TheVariants.{Less}
use Rattle.std.proofs.lemmas.List.{get_or-map, get_or_append_left, get_or_default, length-map, map-append}
use Rattle.std.proofs.lemmas.List.Edits.{get_or-between, length-between}
use Rattle.std.proofs.lemmas.List.Elements.{All-map, Contains-append_cases, Contains-append_left, Contains-get_or, Contains-push, Contains-push_cases}
use Rattle.std.proofs.lemmas.Map.Keys.{sorted_from_strictly_increasing}
use Rattle.std.proofs.lemmas.Option.{get_or_from_slice_get, slice_get-get_or, slice_get_within}
use Rattle.staat_vec.specs.declared.vector.V3.{V3}
use Rattle.staat_vec.specs.Lists.{Lists}
use Rattle.staat_vec.specs.Primitives.{primitive}
use Rattle.staat_vec.specs.Vectors.{cross, det, dot, negative, origin}
use Rattle.staat_vec.proofs.Canons.{negative-negative}
use Rattle.staat_vec.proofs.Comparisons.{head_less, nat_cmp-less, sorted_push, tail_sorted}
use Rattle.staat_vec.proofs.Integers.{zero_from_opposite, zero_not_positive, zero_or}
use Rattle.staat_vec.proofs.ListLaws.{Contains-from_map, Contains-map, all_of, map_twice}
use Rattle.staat_vec.proofs.Naturals.{lt_or_le, same_or, trichotomy}
use Rattle.staat_vec.proofs.Primitives.{IsPrimitive-some}
use Rattle.staat_vec.proofs.Unique.{Contains-front, Contains-later}
use Rattle.staat_vec.proofs.VecRing.{dot_cross_right, dot_negative}
use Rattle.staat_vec.proofs.VectorLaws.{det_same}
use Rattle.staat_model.proofs.Members.{All-from_members}
use Rattle.staat_model.specs.Circles.{IsLinked, IsOnCircle, PassesThrough, axis_beside}
use Rattle.staat_model.specs.Planes.{axes}
use Rattle.staat_pairs.specs.Tables.{AreTablePlanes}
use Rattle.staat_planes.specs.PairOrder.{plane_at}
use Rattle.staat_planes.proofs.UsedPlanes.{places_rise}
use Rattle.staat_ring.specs.declared.entry.Entry.{Entry}
use Rattle.staat_ring.specs.Builds.{AreStopsFrom, AreUpper, IsUpperEntry, all_around, opposite, ray, ring_by, slot_at, stops_from}
use Rattle.staat_ring.specs.Order.{AreStopEnds, IsBreak, IsOrderOf, entry_at, no_entry, order_det}
use Rattle.staat_ring.specs.Rings.{IsRingOf, RingStop, crossing, facet_by, stop_of, vertex_of}
use Rattle.staat_ring.proofs.CircleFromHalf.{IsHalf, circle_from_half, whole_circle}
use Rattle.staat_ring.proofs.Divided.{length-stops, stop_at}
use Rattle.staat_ring.proofs.HalfTurn.{IsOnHalf, Precedes, ahead_trans, axis_apart, axis_differs, axis_first, flat_facet, not_before, on_half, one_vertex, precedes, ray_negative, some_normal, on_all_axes, transitive, unit, vertex}
use Rattle.staat_ring.proofs.RingLemmas.{map_same}
use Rattle.staat_ring.proofs.Steps.{negative_on, not_both, primitive_on, turn_same, turn}

-- ---- stops, one by one

-- the entries of the stop at u: each names it, and they are of the planes through it
record IsStopOf (planes : List V3) (linked : List ℕ) (c : ℕ) (u : V3) (xs : List Entry) : Type 0 where
  some : 0 < length xs
  names : (e : Entry) → Contains xs e → crossing planes c e ≡ u
  through : Lists nat_cmp (PassesThrough planes linked c u) (map (λ e. e.plane) xs)

module _ (planes : List V3) (linked : List ℕ) (c : ℕ) where
  vertex_is : (u : V3) (xs : List Entry) → IsStopOf planes linked c u xs → vertex_of planes c xs ≡ u
  vertex_is u [] is = absurd (let lt = is.some in omega (arith, lt))
  vertex_is u (x ∷ xs) is = is.names x (Contains-front x xs)

  -- the same planes pass through the opposite vertex
  turned : (u : V3) (xs : List Entry) → IsStopOf planes linked c u xs → IsStopOf planes linked c (negative u) (map opposite xs)
  turned u xs is = record {
    some = let lt = is.some in omega (arith, lt, length-map xs opposite);
    names = λ e ce. let (x, cx, q) = Contains-from_map opposite xs e ce in subst (λ (y : Entry). crossing planes c y ≡ negative u) q (flipped x.turned (primitive (cross (plane_at planes c) (plane_at planes x.plane))) ∙ ap negative (is.names x cx));
    through = subst (λ ks. Lists nat_cmp (PassesThrough planes linked c (negative u)) ks) (sym (map_twice (λ (e : Entry). e.plane) opposite xs)) (record {
      ascending = is.through.ascending;
      each = λ k ck. let p = is.through.each k ck in record { h = p.h; linked_is = p.linked_is; different = p.different; on = negative_on p.h u p.on };
      all = λ k p. is.through.all k (record { h = p.h; linked_is = p.linked_is; different = p.different; on = zero_from_opposite (dot p.h u) (sym (dot_negative p.h u) ∙ p.on) });
    });
  }
    where
      flipped : (t : Bool) (v : V3) → facet_by (not t) v ≡ negative (facet_by t v)
      flipped false v = refl
      flipped true v = sym (negative-negative v)

-- ---- numbers in order

sorted_after : (x : ℕ) (xs : List ℕ) → IsStrictlySortedBy nat_cmp xs → ((y : ℕ) → Contains xs y → x < y) → IsStrictlySortedBy nat_cmp (x ∷ xs)
unfolding IsStrictlySortedBy
sorted_after x xs s h = (all_of (λ z. nat_cmp x z ≡ Less) xs (λ z c. nat_cmp-less x z (h z c)), s)

-- the part in which a place is
record IsIn (start : ℕ) (ends : List ℕ) (p : ℕ) : Type 0 where
  part : ℕ
  within : part < length ends
  from : get_or (start ∷ ends) part 0 ≤ p
  to : p < get_or ends part 0

part_of : (start : ℕ) (ends : List ℕ) (p : ℕ) → start ≤ p → (k : ℕ) → k < length ends → p < get_or ends k 0 → IsIn start ends p
part_of start [] p le k lk lt = absurd (omega (arith, lk))
part_of start (end ∷ ends) p le zero lk lt = record { part = 0; within = omega arith; from = le; to = lt }
part_of start (end ∷ ends) p le (suc k) lk lt = ⊎_elim {C = IsIn start (end ∷ ends) p}
    (λ low. record { part = 0; within = omega arith; from = le; to = low })
    (λ high. let r = part_of end ends p high k (omega (arith, lk)) lt in let w = r.within in record { part = suc r.part; within = omega (arith, w); from = r.from; to = r.to })
    (lt_or_le p end)

-- ---- the stops

module _ (planes : List V3) (rules : AreTablePlanes planes) (c : ℕ) (g axis : V3) (gi : slice_get planes c ≡ Some g) (ai : slice_get planes (axis_beside c) ≡ Some axis)
    (keys es : List Entry) (upper : AreUpper planes c g axis (length planes) keys) (order : IsOrderOf planes g keys es) (ends : List ℕ) (are : AreStopEnds planes g es ends) where
  abbrev at : ℕ → Entry
  at p = entry_at es p

  abbrev v : ℕ → V3
  v p = vertex planes g (at p)

  abbrev gg : pos 0 <ℤ dot g g
  gg = some_normal g axis (axis_apart planes rules c g axis gi ai)

  upper_at : (p : ℕ) → p < length es → IsUpperEntry planes c g axis (at p)
  upper_at p lt = upper.each (at p) (order.only (at p) (Contains-get_or es p no_entry lt))

  on : (p : ℕ) → p < length es → IsOnHalf g (ray g axis) gg (v p)
  on p lt = on_half planes rules c g axis gi ai (at p) (upper_at p lt)

  rises : (p q : ℕ) → p < q → q < length es → Precedes planes g (at p) (at q)
  rises p q lt lq = (precedes planes rules c g axis gi ai (at p) (at q) (upper_at p (omega (arith, lt, lq))) (upper_at q lq)).0
      (order.rises (transitive planes rules c g axis gi ai keys upper.each) p q lt lq)

  same_line : (p q : ℕ) → p < length es → q < length es → (order_det planes g (at p) (at q) ≡ pos 0) ↔ (v p ≡ v q)
  same_line p q lp lq = one_vertex planes rules c g axis gi ai (at p) (at q) (upper_at p lp) (upper_at q lq)

  -- the vertex changes at a break, and only there
  past_break : (p q : ℕ) → p < q → IsBreak planes g es q → pos 0 <ℤ turn g (v p) (v q)
  past_break p q lt is =
      let lq = is.within in
      let near : q - 1 < length es = omega (arith, lq) in
      let step : pos 0 <ℤ turn g (v (q - 1)) (v q) = ⊎_elim {C = pos 0 <ℤ turn g (v (q - 1)) (v q)} (λ h. h) (λ h. absurd (is.differ ((same_line (q - 1) q near lq).1 h.0))) (rises (q - 1) q (omega (arith, lt)) lq) in
      ⊎_elim {C = pos 0 <ℤ turn g (v p) (v q)} (λ e. subst (λ i. pos 0 <ℤ turn g (v i) (v q)) (sym e) step)
      (λ ne. ⊎_elim {C = pos 0 <ℤ turn g (v p) (v q)} (λ h. ahead_trans g (ray g axis) gg (v p) (v (q - 1)) (v q) (on p (omega (arith, lt, lq))) (on (q - 1) near) (on q lq) h step)
      (λ h. subst (λ x. pos 0 <ℤ turn g x (v q)) (sym h.0) step)
      (rises p (q - 1) (omega (arith, lt, ne)) near))
      (same_or p (q - 1))

  until_break : (p d : ℕ) → p + d < length es → ((q : ℕ) → p < q → q ≤ p + d → IsBreak planes g es q → ⊥) → v (p + d) ≡ v p
  until_break p zero lt none = ap v (let z : p + 0 ≡ p = omega arith in z)
  until_break p (suc d) lt none =
      let before : p + suc d - 1 ≡ p + d = omega arith in
      let step : v (p + d) ≡ v (p + suc d) = ⊎_elim {C = v (p + d) ≡ v (p + suc d)} (λ z. (same_line (p + d) (p + suc d) (omega (arith, lt)) lt).0 z)
      (λ nz. absurd (none (p + suc d) (omega arith) (omega arith) (record { later = omega arith; within = lt; differ = λ z. nz (ap (λ i. order_det planes g (at i) (at (p + suc d))) (sym before) ∙ z) })))
      (zero_or (order_det planes g (at (p + d)) (at (p + suc d)))) in
      sym step ∙ until_break p d (omega (arith, lt)) (λ q low high. none q low (omega (arith, high)))

  -- the place of the entry of a plane
  put : (k : ℕ) → k < length planes → k ≢ c → (p : ℕ) × (p < length es) × ((at p).plane ≡ k)
  put k lt ne =
      let h = upper.all k lt ne in
      let r = order.each (record { plane = k; turned = h.turned }) h.listed in
      let (p, lp, e) = r.listed in
      (p, lp, ap (λ x. x.plane) (sym (get_or_default es p (record { plane = k; turned = r.turned }) no_entry lp) ∙ e))

  axis_within : axis_beside c < length planes
  axis_within = slice_get_within planes (axis_beside c) axis ai

  some : 0 < length es
  some = let (p, lp, e) = put (axis_beside c) axis_within (axis_differs c) in omega (arith, lp)

  -- ---- where they end

  ends_are : Lists nat_cmp (λ p. IsBreak planes g es p ⊎ (length es ≡ p)) ends
  ends_are = subst (Lists nat_cmp (λ p. IsBreak planes g es p ⊎ (length es ≡ p))) (sym are.is) (record {
    ascending = sorted_push are.breaks (length es) are.are.ascending (λ p cp. (are.are.each p cp).within);
    each = λ p cp. ⊎_elim {C = IsBreak planes g es p ⊎ (length es ≡ p)} (λ a. inl (are.are.each p a)) (λ e. inr e) (Contains-push_cases are.breaks (length es) p cp);
    all = λ p. ⊎_elim {C = Contains (are.breaks ++ length es ∷ []) p} (λ b. Contains-append_left are.breaks (length es ∷ []) p (are.are.all p b)) (λ e. subst (Contains (are.breaks ++ length es ∷ [])) e (Contains-push are.breaks (length es)));
  })

  end_below : (p : ℕ) → Contains ends p → (0 < p) × (p ≤ length es)
  end_below p cp = ⊎_elim {C = (0 < p) × (p ≤ length es)} (λ b. (b.later, (let w = b.within in omega (arith, w)))) (λ e. (let s = some in omega (arith, s, e), omega (arith, e))) (ends_are.each p cp)

  abbrev first : ℕ → ℕ
  first k = get_or (0 ∷ ends) k 0

  abbrev end : ℕ → ℕ
  end k = get_or ends k 0

  ascending : IsStrictlySortedBy nat_cmp (0 ∷ ends)
  ascending = sorted_after 0 ends ends_are.ascending (λ p cp. (end_below p cp).0)

  step : (i k : ℕ) → i < k → k < length ends + 1 → first i < first k
  step i k lt lk = places_rise (0 ∷ ends) i k ascending lt (omega (arith, lk))

  step_back : (i k : ℕ) → i < length ends + 1 → first i < first k → i < k
  step_back i k li lt = ⊎_elim {C = i < k} (λ l. l) (λ o. absurd (⊎_elim {C = ⊥} (λ q. let e = ap first q in omega (arith, lt, e)) (λ gt. let r = step k i gt li in omega (arith, lt, r)) o)) (trichotomy i k)

  high : (k : ℕ) → k < length ends → (first k < end k) × (end k ≤ length es)
  high k lk = (step k (suc k) (omega arith) (omega (arith, lk)), (end_below (end k) (Contains-get_or ends k 0 lk)).1)

  first_in : (k : ℕ) → k < length ends → first k < length es
  first_in k lk = let h = high k lk in omega (arith, h)

  from_break : (k : ℕ) → 0 < k → k < length ends → IsBreak planes g es (first k)
  from_break zero lt lk = absurd (omega (arith, lt))
  from_break (suc k) lt lk = ⊎_elim {C = IsBreak planes g es (first (suc k))} (λ b. b) (λ e. let h = high (suc k) lk in absurd (omega (arith, h, e))) (ends_are.each (end k) (Contains-get_or ends k 0 (omega (arith, lk))))

  -- those of later stops come later
  stop_rises : (i k : ℕ) → i < k → k < length ends → pos 0 <ℤ turn g (v (first i)) (v (first k))
  stop_rises i k lt lk = past_break (first i) (first k) (step i k lt (omega (arith, lk))) (from_break k (omega (arith, lt)) lk)

  -- the entries of a stop cross in one vertex
  one_stop : (k p : ℕ) → k < length ends → first k ≤ p → p < end k → v p ≡ v (first k)
  one_stop k p lk low lt =
      let h = high k lk in
      let same : first k + (p - first k) ≡ p = omega (arith, low) in
      ap v (sym same) ∙ until_break (first k) (p - first k) (omega (arith, h, lt, low)) (λ q l m is.
      let (j, lj, e) = ends_are.all q (inl is) in
      let s : first (suc j) ≡ q = get_or_default ends j 0 q lj ∙ e in
      let a = step_back k (suc j) (omega (arith, lk)) (omega (arith, l, s)) in
      let b = step_back (suc j) (suc k) (omega (arith, lj)) (omega (arith, s, m, same, lt)) in
      omega (arith, a, b))

  -- the stop of a place
  found : (p : ℕ) → p < length es → IsIn 0 ends p
  found p lt = let (k, lk, e) = ends_are.all (length es) (inr refl) in part_of 0 ends p (omega arith) k lk (let q : end k ≡ length es = get_or_default ends k 0 (length es) lk ∙ e in omega (arith, q, lt))

  -- ---- the entries of a stop

  abbrev slots : List (List Entry)
  slots = stops_from 0 ends es

  abbrev slot : ℕ → List Entry
  slot k = slot_at slots k

  slot_long : (k : ℕ) → k < length ends → length (slot k) ≡ end k - first k
  slot_long k lk = ap length (stop_at 0 k ends es lk) ∙ length-between es (first k) (end k) (high k lk).1

  slot_entry : (k d : ℕ) → k < length ends → d < length (slot k) → (first k + d < end k) × (get_or (slot k) d no_entry ≡ at (first k + d))
  slot_entry k d lk lt =
      let near : first k + d < end k = omega (arith, lt, slot_long k lk) in
      (near, ap (λ l. get_or l d no_entry) (stop_at 0 k ends es lk) ∙ get_or-between es (first k) (end k) d no_entry near)

  -- an entry of the stop k
  record IsOfStop (k : ℕ) (e : Entry) : Type 0 where
    is_upper : IsUpperEntry planes c g axis e
    crossed : vertex planes g e ≡ v (first k)

  of_stop : (k : ℕ) (e : Entry) → k < length ends → Contains (slot k) e → IsOfStop k e
  of_stop k e lk (d, lt, q) =
      let (near, is) = slot_entry k d lk lt in
      let h = high k lk in
      subst (IsOfStop k) (sym is ∙ (get_or_default (slot k) d no_entry e lt ∙ q)) (record {
        is_upper = upper_at (first k + d) (omega (arith, near, h));
        crossed = one_stop k (first k + d) lk (omega arith) near;
      })

  -- the entry of a plane, in its stop
  record IsFound (j : ℕ) : Type 0 where
    stop : ℕ
    inside : stop < length ends
    entry : Entry
    plane : entry.plane ≡ j
    there : Contains (slot stop) entry
    is : IsOfStop stop entry

  find : (j : ℕ) → j < length planes → j ≢ c → IsFound j
  find j lt ne =
      let (p, lp, plane) = put j lt ne in
      let r = found p lp in
      let low = r.from in
      let to = r.to in
      let d : ℕ = p - first r.part in
      let ld : d < length (slot r.part) = omega (arith, slot_long r.part r.within, low, to) in
      let same : first r.part + d ≡ p = omega (arith, low) in
      let there : Contains (slot r.part) (at p) = subst (Contains (slot r.part)) ((slot_entry r.part d r.within ld).1 ∙ ap at same) (Contains-get_or (slot r.part) d no_entry ld) in
      record { stop = r.part; inside = r.within; entry = at p; plane = plane; there = there; is = of_stop r.part (at p) r.within there }

  -- the planes of a stop ascend
  planes_rise : (k : ℕ) → k < length ends → IsStrictlySortedBy nat_cmp (map (λ e. e.plane) (slot k))
  planes_rise k lk = sorted_from_strictly_increasing (map (λ e. e.plane) (slot k)) (λ d lt.
      let m = length-map (slot k) (λ (e : Entry). e.plane) in
      let ld : d + 1 < length (slot k) = omega (arith, lt, m) in
      let (near, is) = slot_entry k d lk (omega (arith, ld)) in
      let (next, next_is) = slot_entry k (d + 1) lk ld in
      let h = high k lk in
      let a = get_or-map (λ (e : Entry). e.plane) (slot k) d no_entry 0 (omega (arith, ld)) ∙ ap (λ (e : Entry). e.plane) is in
      let b = get_or-map (λ (e : Entry). e.plane) (slot k) (d + 1) no_entry 0 ld ∙ ap (λ (e : Entry). e.plane) next_is in
      let same = one_stop k (first k + d) lk (omega arith) near ∙ sym (one_stop k (first k + (d + 1)) lk (omega arith) next) in
      let less : (at (first k + d)).plane < (at (first k + (d + 1))).plane = ⊎_elim {C = (at (first k + d)).plane < (at (first k + (d + 1))).plane}
      (λ t. absurd (zero_not_positive (turn g (v (first k + d)) (v (first k + (d + 1)))) (ap (λ x. turn g x (v (first k + (d + 1)))) same ∙ turn_same g (v (first k + (d + 1)))) t)) (λ t. t.1)
      (rises (first k + d) (first k + (d + 1)) (omega arith) (omega (arith, next, h))) in
      omega (arith, less, a, b))

  -- ---- planes and vertices

  normal_is : plane_at planes c ≡ g
  normal_is = get_or_from_slice_get planes c g origin gi

  -- an entry names its vertex
  named : (e : Entry) → crossing planes c e ≡ vertex planes g e
  named e = by e.turned
    where
      by : (t : Bool) → facet_by t (primitive (cross (plane_at planes c) (plane_at planes e.plane))) ≡ ray g (facet_by t (plane_at planes e.plane))
      by false = λ i. primitive (cross (normal_is i) (plane_at planes e.plane))
      by true = (λ i. negative (primitive (cross (normal_is i) (plane_at planes e.plane)))) ∙ sym (ray_negative g (plane_at planes e.plane))

  either_way : (e : Entry) → (vertex planes g e ≡ ray g (plane_at planes e.plane)) ⊎ (vertex planes g e ≡ negative (ray g (plane_at planes e.plane)))
  either_way e = by e.turned
    where
      by : (t : Bool) → (ray g (facet_by t (plane_at planes e.plane)) ≡ ray g (plane_at planes e.plane)) ⊎ (ray g (facet_by t (plane_at planes e.plane)) ≡ negative (ray g (plane_at planes e.plane)))
      by false = inl refl
      by true = inr (ray_negative g (plane_at planes e.plane))

  -- no plane is parallel to c
  not_parallel : (j : ℕ) → j < length planes → j ≢ c → cross g (plane_at planes j) ≢ origin
  not_parallel j lt ne = rules.apart c j g (plane_at planes j) gi (slice_get-get_or planes j origin lt) (λ q. ne (sym q))

  -- the plane passes through the vertex
  on_plane : (e : Entry) → IsUpperEntry planes c g axis e → dot (plane_at planes e.plane) (vertex planes g e) ≡ pos 0
  on_plane e u =
      let h : V3 = plane_at planes e.plane in
      let z = primitive_on h (cross g h) (dot_cross_right g h) (not_parallel e.plane u.within u.different) in
      ⊎_elim {C = dot h (vertex planes g e) ≡ pos 0} (λ q. ap (dot h) q ∙ z) (λ q. ap (dot h) q ∙ negative_on h (ray g h) z) (either_way e)

  -- ---- the first stop is that of the axis

  begins : v 0 ≡ ray g axis
  begins =
      let f = find (axis_beside c) axis_within (axis_differs c) in
      let flat = flat_facet g axis (plane_at planes f.entry.plane) f.entry.turned (ap (λ j. det g axis (plane_at planes j)) f.plane ∙ ap (det g axis) (get_or_from_slice_get planes (axis_beside c) axis origin ai) ∙ det_same g axis) in
      let is : v (first f.stop) ≡ ray g axis = sym f.is.crossed ∙ axis_first planes rules c g axis gi ai f.entry f.is.is_upper flat in
      ⊎_elim {C = v 0 ≡ ray g axis} (λ e. ap (λ k. v (first k)) (sym e) ∙ is)
      (λ ne. absurd (not_before g (ray g axis) gg (v 0) (on 0 some) (subst (λ x. pos 0 <ℤ turn g (v 0) x) is (stop_rises 0 f.stop (omega (arith, ne)) f.inside))))
      (same_or f.stop 0)

  unit_is : (k : ℕ) → k < 3 → (k < length planes) × (plane_at planes k ≡ unit k)
  unit_is k lt = (subst (λ ps. k < length ps) (sym rules.is) (omega (arith, lt)), ap (λ ps. plane_at ps k) rules.is ∙ get_or_append_left axes _ origin k lt)

  -- some plane does not pass through the first stop
  more_than_one : 1 < length ends
  more_than_one = ⊎_elim {C = 1 < length ends} (λ h. h) (λ le. absurd (IsPrimitive-some (v 0) (on 0 some).point.primitive (on_all_axes (v 0) (λ k lt.
      let (small, is) = unit_is k lt in
      ap (λ h. dot h (v 0)) (sym is) ∙ ⊎_elim {C = dot (plane_at planes k) (v 0) ≡ pos 0} (λ e. ap (λ j. dot (plane_at planes j) (v 0)) e ∙ ap (λ h. dot h (v 0)) normal_is ∙ (on 0 some).point.on)
      (λ ne.
      let f = find k small ne in
      let z : f.stop ≡ 0 = (let w = f.inside in omega (arith, w, le)) in
      ap (λ j. dot (plane_at planes j) (v 0)) (sym f.plane) ∙ (ap (dot (plane_at planes f.entry.plane)) (sym (f.is.crossed ∙ ap (λ i. v (first i)) z)) ∙ on_plane f.entry f.is.is_upper))
      (same_or k c))))) (lt_or_le 1 (length ends))

  -- ---- the circle

  module _ (linked : List ℕ) (whole : (j : ℕ) → j < length planes → Contains linked j) where
    link : (j : ℕ) (h : V3) → slice_get planes j ≡ Some h → IsLinked planes linked j h
    link j h e = record { listed = whole j (slice_get_within planes j h e); is = e }

    on_circle : (p : ℕ) → p < length es → IsOnCircle planes linked c g (v p)
    on_circle p lt =
        let u = upper_at p lt in
        record { other = (at p).plane; h = plane_at planes (at p).plane; other_is = link (at p).plane (plane_at planes (at p).plane) (slice_get-get_or planes (at p).plane origin u.within); different = u.different; is = either_way (at p) }

    stop_is : (k : ℕ) → k < length ends → IsStopOf planes linked c (v (first k)) (slot k)
    stop_is k lk = record {
      some = let n = slot_long k lk in let h = high k lk in omega (arith, n, h);
      names = λ e ce. named e ∙ (of_stop k e lk ce).crossed;
      through = record {
        ascending = planes_rise k lk;
        each = λ j cj.
            let (e, ce, q) = Contains-from_map (λ e. e.plane) (slot k) j cj in
            let o = of_stop k e lk ce in
            subst (PassesThrough planes linked c (v (first k))) q (record {
              h = plane_at planes e.plane;
              linked_is = link e.plane (plane_at planes e.plane) (slice_get-get_or planes e.plane origin o.is_upper.within);
              different = o.is_upper.different;
              on = ap (dot (plane_at planes e.plane)) (sym o.crossed) ∙ on_plane e o.is_upper;
            });
        all = λ j p.
            let f = find j (slice_get_within planes j p.h p.linked_is.is) p.different in
            let is : plane_at planes j ≡ p.h = get_or_from_slice_get planes j p.h origin p.linked_is.is in
            let on_both = ap (λ h. dot h (v (first f.stop))) (sym (ap (plane_at planes) f.plane ∙ is)) ∙ (ap (dot (plane_at planes f.entry.plane)) (sym f.is.crossed) ∙ on_plane f.entry f.is.is_upper) in
            let flat = subst (λ h. cross g h ≢ origin) is (not_parallel j (slice_get_within planes j p.h p.linked_is.is) p.different) in
            let never = λ (i m : ℕ) (lt : i < m) (lm : m < length ends) (zi : dot p.h (v (first i)) ≡ pos 0) (zm : dot p.h (v (first m)) ≡ pos 0).
            not_both g p.h (v (first i)) (v (first m)) (stop_rises i m lt lm) (on (first i) (first_in i (omega (arith, lt, lm)))).point.on (on (first m) (first_in m lm)).point.on flat zi zm in
            let same : f.stop ≡ k = ⊎_elim {C = f.stop ≡ k} (λ lt. absurd (never f.stop k lt lk on_both p.on)) (λ o. ⊎_elim {C = f.stop ≡ k} (λ q. q) (λ gt. absurd (never k f.stop gt f.inside p.on on_both)) o) (trichotomy f.stop k) in
            subst (Contains (map (λ e. e.plane) (slot k))) f.plane (Contains-map (λ e. e.plane) (slot k) f.entry (subst (λ i. Contains (slot i) f.entry) same f.there));
      };
    }

    abbrev named_by : List Entry → V3
    named_by xs = vertex_of planes c xs

    -- a stop of the half circle, by its vertex
    stop_in : (xs : List Entry) → Contains slots xs → IsStopOf planes linked c (named_by xs) xs
    stop_in xs (k, lk, e) =
        let is = subst (IsStopOf planes linked c (v (first k))) (get_or_default slots k [] xs lk ∙ e) (stop_is k (omega (arith, lk, length-stops 0 ends es))) in
        subst (λ u. IsStopOf planes linked c u xs) (sym (vertex_is planes linked c (v (first k)) xs is)) is

    all_stops : (xs : List Entry) → Contains (all_around slots) xs → IsStopOf planes linked c (named_by xs) xs
    all_stops xs cx = ⊎_elim {C = IsStopOf planes linked c (named_by xs) xs} (stop_in xs) (λ b.
        let (ys, cy, e) = Contains-from_map (map opposite) slots xs b in
        let is = subst (IsStopOf planes linked c (negative (named_by ys))) e (turned planes linked c (named_by ys) ys (stop_in ys cy)) in
        subst (λ u. IsStopOf planes linked c u xs) (sym (vertex_is planes linked c (negative (named_by ys)) xs is)) is)
        (Contains-append_cases slots (map (map opposite) slots) xs cx)

    abbrev half : List V3
    half = map named_by slots

    long : length half ≡ length ends
    long = length-map slots named_by ∙ length-stops 0 ends es

    half_at : (k : ℕ) → k < length ends → get_or half k origin ≡ v (first k)
    half_at k lk = get_or-map named_by slots k [] origin (omega (arith, lk, length-stops 0 ends es)) ∙ vertex_is planes linked c (v (first k)) (slot k) (stop_is k lk)

    half_is : IsHalf planes linked c g axis half
    half_is = record {
      rises = λ i k lt lk.
          let l : k < length ends = omega (arith, lk, long) in
          subst (λ x. pos 0 <ℤ turn g x (get_or half k origin)) (sym (half_at i (omega (arith, lt, l)))) (subst (λ x. pos 0 <ℤ turn g (v (first i)) x) (sym (half_at k l)) (stop_rises i k lt l));
      two = let t = more_than_one in omega (arith, t, long);
      start = half_at 0 (let t = more_than_one in omega (arith, t)) ∙ begins;
      each = λ u (k, lk, e). let l : k < length ends = omega (arith, lk, long) in subst (IsOnCircle planes linked c g) (sym (half_at k l) ∙ (get_or_default half k origin u lk ∙ e)) (on_circle (first k) (first_in k l));
      all = λ u x.
          let f = find x.other (slice_get_within planes x.other x.h x.other_is.is) x.different in
          let is : plane_at planes f.entry.plane ≡ x.h = ap (plane_at planes) f.plane ∙ get_or_from_slice_get planes x.other x.h origin x.other_is.is in
          record {
            vertex = get_or half f.stop origin;
            listed = Contains-get_or half f.stop origin (let w = f.inside in omega (arith, w, long));
            same = subst (λ y. (u ≡ y) ⊎ (u ≡ negative y)) (f.is.crossed ∙ sym (half_at f.stop f.inside)) (
                turned_same u (ray g x.h) (vertex planes g f.entry) x.is (subst (λ h. (vertex planes g f.entry ≡ ray g h) ⊎ (vertex planes g f.entry ≡ negative (ray g h))) is (either_way f.entry)));
          };
    }
      where
        turned_same : (u r w : V3) → (u ≡ r) ⊎ (u ≡ negative r) → (w ≡ r) ⊎ (w ≡ negative r) → (u ≡ w) ⊎ (u ≡ negative w)
        turned_same u r w (inl a) (inl b) = inl (a ∙ sym b)
        turned_same u r w (inl a) (inr b) = inr (a ∙ sym (ap negative b ∙ negative-negative r))
        turned_same u r w (inr a) (inl b) = inr (a ∙ ap negative (sym b))
        turned_same u r w (inr a) (inr b) = inl (a ∙ sym b)

    abbrev as_stop : List Entry → RingStop
    as_stop xs = record { node = 0; entries = xs }

    pub circle_is : IsRingOf planes linked (ring_by c (all_around slots))
    circle_is = record {
      circle = circle_from_half planes linked c g axis half half_is (map (stop_of planes c) (map as_stop (all_around slots))) (link c g gi) (link (axis_beside c) axis ai) vertices
          (All-map (λ s. Lists nat_cmp (PassesThrough planes linked c s.vertex) s.through) (stop_of planes c) (map as_stop (all_around slots))
          (All-map (λ s. Lists nat_cmp (PassesThrough planes linked c (vertex_of planes c s.entries)) (map (λ e. e.plane) s.entries)) as_stop (all_around slots) (All-from_members (λ xs. Lists nat_cmp (PassesThrough planes linked c (named_by xs)) (map (λ e. e.plane) xs)) (all_around slots) (λ xs cx. (all_stops xs cx).through))));
      agree = All-map (λ s. All (λ e. crossing planes c e ≡ vertex_of planes c s.entries) s.entries) as_stop (all_around slots) (All-from_members (λ xs. All (λ e. crossing planes c e ≡ named_by xs) xs) (all_around slots) (λ xs cx. All-from_members (λ e. crossing planes c e ≡ named_by xs) xs (all_stops xs cx).names));
    }
      where
        vertices : map (λ s. s.vertex) (map (stop_of planes c) (map as_stop (all_around slots))) ≡ whole_circle half
        vertices = map_twice (λ s. s.vertex) (stop_of planes c) (map as_stop (all_around slots)) ∙ map_twice (λ s. vertex_of planes c s.entries) as_stop (all_around slots) ∙ map-append named_by slots (map (map opposite) slots)
            ∙ ap (λ us. half ++ us) (map_twice named_by (map opposite) slots
            ∙ map_same (λ xs. named_by (map opposite xs)) (λ xs. negative (named_by xs)) slots (λ xs cx. vertex_is planes linked c (negative (named_by xs)) (map opposite xs) (turned planes linked c (named_by xs) xs (stop_in xs cx)))
            ∙ sym (map_twice negative named_by slots))

  pub are_stops : AreStopsFrom 0 (length es) ends
  are_stops = stops_by 0 ends ascending (omega arith) (λ p cp. (end_below p cp).1)
    where
      stops_by : (start : ℕ) (xs : List ℕ) → IsStrictlySortedBy nat_cmp (start ∷ xs) → start ≤ length es → ((p : ℕ) → Contains xs p → p ≤ length es) → AreStopsFrom start (length es) xs
      stops_by start [] s le h = le
      stops_by start (x ∷ xs) s le h = ((let l = head_less start (x ∷ xs) x s (Contains-front x xs) in omega (arith, l)), stops_by x xs (tail_sorted start (x ∷ xs) s) (h x (Contains-front x xs)) (λ p c. h p (Contains-later x xs p c)))
