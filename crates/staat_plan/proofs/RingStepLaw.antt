-- The first vertex that serves, from what is found on the circles.
use Rattle.std.specs.Prelude.{MatchOption, Option, Some, None, if◌then◌else◌, map, slice_get}
use Rattle.std.proofs.{lemmas.List.Elements.All-contains, lemmas.Option.{slice_get-get_or, slice_get_within, same_Some}}
use Rattle.std.proofs.Common.{◌≡◌, ◌↔◌, ⊎_elim, ℕ, ◌+◌, ◌*◌, ◌<◌, ◌≤◌, false, arith, ap, sym, subst, ◌∙◌, refl, List, length, Contains}
use Rattle.std.specs.FinSet as set
use Rattle.staat_vec.specs.{Vectors.origin, declared.vector.V3.V3}
use Rattle.staat_vec.proofs.{ListLaws.{Contains-from_map, Contains-map}, Naturals.lt_one_more_cases, Options.none_some}
use Rattle.staat_model.specs.{Circles.IsLinked, Outcomes.{HasNoStep, IsMovedSide, IsStep, Serves, try_vertex}}
use Rattle.staat_model.specs.{Planes.ArePlanes, Sets.IsSubset, declared.assembly.Part.Part}
use Rattle.staat_model.specs.declared.set.PartSet.{PartSet}
use Rattle.staat_pairs.specs.Tables.{IsTable, Table, WasMadeFrom}
use Rattle.staat_planes.specs.{PairOrder.plane_at, Tables.IsPlaneOf}
use Rattle.staat_planes.proofs.UsedPlanes.{numbered_planes}
use Rattle.staat_ring.specs.Rings.{IsRingOf, Ring, RingStop, crossing, linked_of, vertex_of, AreRings}
use Rattle.staat_ring.specs.declared.entry.Entry.{Entry}
use Rattle.staat_ring.proofs.{CircleStops.{entry_there, entry_vertex}, Stops.none_parallel}
use Rattle.staat_plan.specs.RingSearches.{HasServing, IsBest, IsServing, NoneServes, pair_key}
use Rattle.staat_plan.specs.declared.ring_step.Serving.{Serving}
use Rattle.staat_plan.proofs.{RingPairs.{first_pair, no_pairs}, StepLemmas.{no_step, step_is}}

module _ (parts : List Part) (t : Table) (w : PartSet) (rules : IsTable t) (rings : List Ring) (out : List ℕ) (are : AreRings t.planes rings out) (made : WasMadeFrom parts t) (within : IsSubset w t.of)
    (linked : (k : ℕ) (n : V3) → slice_get t.planes k ≡ Some n → Contains (linked_of rings) k ↔ IsPlaneOf parts w n) where
  abbrev ks : List ℕ
  ks = linked_of rings

  ring_for : (k : ℕ) → Contains ks k → (r : Ring) × Contains rings r × (r.plane ≡ k)
  ring_for k c = Contains-from_map (λ r. r.plane) rings k c

  rings_of : (r : Ring) → Contains rings r → IsRingOf t.planes ks r
  rings_of r c = All-contains (IsRingOf t.planes ks) rings r are.each c

  linked_at : (k : ℕ) → Contains ks k → IsLinked t.planes ks k (plane_at t.planes k)
  linked_at k c =
      let (r, cr, e) = ring_for k c in
      let is = rings_of r cr in
      record { listed = c; is = subst (λ j. slice_get t.planes j ≡ Some (plane_at t.planes j)) e (slice_get-get_or t.planes r.plane origin (slice_get_within t.planes r.plane is.circle.g is.circle.g_is.is)) }

  small : (k : ℕ) → Contains ks k → k < length t.planes
  small k c = slice_get_within t.planes k (plane_at t.planes k) (linked_at k c).is

  pub planes_of_w : ArePlanes parts w (map (plane_at t.planes) ks)
  planes_of_w = numbered_planes parts t w ks made within (record { ascending = are.ascending; small = small }) linked

  -- each vertex of the circle of i is looked at
  pub looked : (i : ℕ) (r : Ring) (best : Option Serving) (e : Entry) → Contains rings r → r.plane ≡ i → IsBest parts t.planes w i r.stops (length r.stops) best → Contains ks e.plane → i < e.plane → Serves parts w (crossing t.planes i e) → (f : Serving) × (best ≡ Some f) × (pair_key f.entry ≤ pair_key e)
  looked i r best e cr plane is ce lt serves =
      let at = entry_there t.planes ks r (none_parallel t.planes (linked_of rings) rules.planes) (rings_of r cr) e (plane_at t.planes e.plane) (linked_at e.plane ce) (λ q. absurd (omega (arith, q, plane, lt))) in
      is.least at.place at.stop e (slice_get_within r.stops at.place at.stop at.is) at.is
      (subst (λ v. Serves parts w v) (sym (ap (λ c. vertex_of t.planes c at.stop.entries) (sym plane) ∙ (at.vertex ∙ ap (λ c. crossing t.planes c e) plane))) serves)
      at.listed lt

  -- what was found is right
  module _ (i : ℕ) (r : Ring) (f : Serving) (cr : Contains rings r) (plane : r.plane ≡ i) (is : IsBest parts t.planes w i r.stops (length r.stops) (Some f)) where
    abbrev right : (s : RingStop) × Contains r.stops s × IsServing parts t.planes w i s f
    right = is.right f refl

    vertex : vertex_of t.planes i right.0.entries ≡ crossing t.planes i f.entry
    vertex = subst (λ c. vertex_of t.planes c right.0.entries ≡ crossing t.planes c f.entry) plane (sym (entry_vertex t.planes ks r (none_parallel t.planes (linked_of rings) rules.planes) (rings_of r cr) right.0 f.entry right.1 right.2.listed))

    pub has_serving : HasServing parts t.planes w rings i
    has_serving = record { ring = r; stop = right.0; listed = cr; plane = plane; on = right.1; serves = subst (λ c. Serves parts w (vertex_of t.planes c right.0.entries)) (sym plane) right.2.serves }

    pub found_linked : Contains ks f.entry.plane
    found_linked =
        let pass = All-contains (λ s. Rattle.staat_vec.specs.Lists.Lists Rattle.std.specs.Ordering.nat_cmp (Rattle.staat_model.specs.Circles.PassesThrough t.planes ks r.plane s.vertex) s.through) (map (Rattle.staat_ring.specs.Rings.stop_of t.planes r.plane) r.stops) (Rattle.staat_ring.specs.Rings.stop_of t.planes r.plane right.0) (rings_of r cr).circle.through (Contains-map (Rattle.staat_ring.specs.Rings.stop_of t.planes r.plane) r.stops right.0 right.1) in
        (pass.each f.entry.plane (Contains-map (λ e. e.plane) right.0.entries f.entry right.2.listed)).linked_is.listed

    pub found_step : Contains ks i → NoneServes parts t.planes w ks i
        → IsStep false parts w (try_vertex (crossing t.planes i f.entry)) f.moved
    found_step ci none = step_is parts w (map (plane_at t.planes) ks) planes_of_w (crossing t.planes i f.entry) f.moved
        (first_pair (plane_at t.planes) (λ v. Serves parts w v) ks i f.entry.plane f.entry.turned are.ascending ci
        found_linked right.2.later
        (subst (λ v. Serves parts w v) vertex right.2.serves)
        (λ h k c ch ck lt later s. none h (record { plane = k; turned = c }) ch ck lt later s)
        (λ k c ck later s.
        let found = looked i r (Some f) (record { plane = k; turned = c }) cr plane is ck later s in
        let q : f ≡ found.0 = same_Some f found.0 found.1 in
        subst (λ (x : Serving). pair_key x.entry ≤ 2 * k + (if c then 1 else 0)) (sym q) found.2))
        (subst (λ v. IsMovedSide parts w v f.moved) vertex right.2.moved)

  -- no circle has a vertex that serves
  pub has_no_step : NoneServes parts t.planes w ks (length t.planes) → HasNoStep false parts w
  has_no_step none = no_step parts w (map (plane_at t.planes) ks) planes_of_w
      (no_pairs (plane_at t.planes) (λ v. Serves parts w v) ks are.ascending
      (λ i j b ci cj lt s. none i (record { plane = j; turned = b }) ci cj (small i ci) lt s))

  -- one circle more
  pub none_more : (i : ℕ) (r : Ring) → Contains rings r → r.plane ≡ i → IsBest parts t.planes w i r.stops (length r.stops) None → NoneServes parts t.planes w ks i → NoneServes parts t.planes w ks (i + 1)
  none_more i r cr plane is none h e ch ce lt later serves = ⊎_elim {C = ⊥}
      (λ before. none h e ch ce before later serves)
      (λ q. let found = looked i r None e cr plane is ce (omega (arith, q, later)) (subst (λ k. Serves parts w (crossing t.planes k e)) q serves) in none_some found.0 found.1)
      (lt_one_more_cases h i lt)

  -- what is found on the circle of i
  pub step_or_none : (i : ℕ) (r : Ring) (best : Option Serving) → Contains rings r → r.plane ≡ i
      → IsBest parts t.planes w i r.stops (length r.stops) best → Contains ks i → NoneServes parts t.planes w ks i
      → MatchOption best (NoneServes parts t.planes w ks (i + 1))
      (λ f. HasServing parts t.planes w rings i
      × IsStep false parts w (try_vertex (crossing t.planes i f.entry)) f.moved)
  step_or_none i r None cr plane is ci none = none_more i r cr plane is none
  step_or_none i r (Some f) cr plane is ci none =
      (has_serving i r f cr plane is, found_step i r f cr plane is ci none)

pub none_skip : (parts : List Part) (planes : List V3) (w : PartSet) (ks : List ℕ) (i : ℕ) → (Contains ks i → ⊥) → NoneServes parts planes w ks i → NoneServes parts planes w ks (i + 1)
none_skip parts planes w ks i out none h e ch ce lt later serves = ⊎_elim {C = ⊥} (λ before. none h e ch ce before later serves) (λ q. out (subst (Contains ks) q ch)) (lt_one_more_cases h i lt)
