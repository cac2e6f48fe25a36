-- Stops of the circle of a plane among all planes of a table, and the signs at its vertices.
use Rattle.std.proofs.Common.{◌≡◌, ◌≢◌, ℕ, ◌+◌, ◌-◌, ◌%◌, ◌<◌, arith, ap, sym, subst, ◌∙◌, List, length, All, Contains, Bool, false, true}
use Rattle.std.specs.Prelude.{Some, slice_get}
use Rattle.std.proofs.Math.Nat.{mod-eq_of_lt}
use Rattle.std.proofs.lemmas.List.Elements.{Contains-get_or}
use Rattle.std.proofs.lemmas.Option.{get_or_from_slice_get, slice_get-get_or, slice_get_within}
use Rattle.staat_vec.specs.declared.vector.V3.{V3}
use Rattle.staat_pairs.specs.Tables.{AreTablePlanes}
use Rattle.staat_ring.specs.declared.entry.Entry.{Entry}
use Rattle.staat_model.specs.declared.assembly.Part.{Part}
use Rattle.staat_model.specs.declared.set.PartSet.{PartSet}
use Rattle.staat_ring.specs.Belonging.{HasAll, HoldSigns}
use Rattle.staat_ring.specs.CountedSigns.{Signed}
use Rattle.staat_ring.specs.RingViews.{numbers_below}
use Rattle.staat_vec.specs.Vectors.{origin}
use Rattle.staat_model.specs.Planes.{vertices}
use Rattle.staat_planes.specs.PairOrder.{plane_at}
use Rattle.staat_ring.specs.Rings.{IsRingOf, Ring, RingStop, crossing, vertex_of}
use Rattle.staat_ring.specs.SignChanges.{with_stop_signs}
use Rattle.staat_ring.specs.WholeCircles.{AreSignsAt, IsWholeCircle, no_stop, stop_at, vertex_at}
use Rattle.staat_ring.proofs.Built.{below_all}
use Rattle.staat_ring.proofs.CircleStops as circle
use Rattle.staat_ring.proofs.SignAll.{stop_signs_same}
use Rattle.staat_ring.proofs.Stops.{AreLinkedApart, none_parallel}

-- the numbers of all planes
abbrev pub all : List V3 → List ℕ
all planes = numbers_below (length planes)

pub all_linked : (parts : List Part) (w : PartSet) (planes : List V3) → HasAll parts w planes (all planes)
all_linked parts w planes k n at is = below_all (length planes) k (slice_get_within planes k n at)

pub from_all : (planes : List V3) (s : Signed) (v : V3) → HoldSigns planes (all planes) s v → AreSignsAt planes s v
from_all planes s v holds j n at = holds j n (record { listed = below_all (length planes) j (slice_get_within planes j n at); is = at })

pub to_linked : (planes : List V3) (linked : List ℕ) (s : Signed) (v : V3) → AreSignsAt planes s v → HoldSigns planes linked s v
to_linked planes linked s v signs j n h = signs j n h.is

module _ (planes : List V3) (table : AreTablePlanes planes) (r : Ring) (is : IsWholeCircle planes r) where
  abbrev apart : AreLinkedApart planes (all planes)
  apart = none_parallel planes (all planes) table

  pub ring : IsRingOf planes (all planes) r
  ring = is.is (all planes) (below_all (length planes))

  module _ (k : ℕ) (lt : k < length r.stops) where
    pub there : slice_get r.stops k ≡ Some (stop_at r k)
    there = slice_get-get_or r.stops k no_stop lt

    listed : Contains r.stops (stop_at r k)
    listed = Contains-get_or r.stops k no_stop lt

    pub entries_small : All (λ e. e.plane < length planes) (stop_at r k).entries
    entries_small = (circle.few planes (all planes) r apart ring (stop_at r k) listed).1

    pub entry_small : (e : Entry) → Contains (stop_at r k).entries e → e.plane < length planes
    entry_small = circle.entry_small planes (all planes) r apart ring (stop_at r k) listed

    pub entry_other : (e : Entry) → Contains (stop_at r k).entries e → e.plane ≢ r.plane
    entry_other = circle.entry_other planes (all planes) r apart ring (stop_at r k) listed

    pub some : 0 < length (stop_at r k).entries
    some = circle.some planes (all planes) r apart ring (stop_at r k) listed

    pub vertex_listed : Contains (vertices planes) (vertex_at planes r k)
    vertex_listed = circle.vertex_listed planes (all planes) r apart ring (stop_at r k) listed

    pub vertex_some : vertex_at planes r k ≢ origin
    vertex_some = circle.vertex_some planes (all planes) r apart ring (stop_at r k) listed

  -- the crossing with another plane is one of the vertices
  pub crossing_there : (j : ℕ) (turned : Bool) → j < length planes → j ≢ r.plane → (k : ℕ) × (k < length r.stops) × (vertex_at planes r k ≡ crossing planes r.plane (record { plane = j; turned = turned }))
  crossing_there j turned small ne =
      let there = circle.entry_there planes (all planes) r apart ring (record { plane = j; turned = turned }) (plane_at planes j) (record { listed = below_all (length planes) j small; is = slice_get-get_or planes j origin small }) ne in
      (there.place, slice_get_within r.stops there.place there.stop there.is, ap (λ (s : RingStop). vertex_of planes r.plane s.entries) (get_or_from_slice_get r.stops there.place there.stop no_stop there.is) ∙ there.vertex)

  pub crossed : (k : ℕ) → 0 < k → k < length r.stops → (now : Signed) → length now.states ≡ length planes → AreSignsAt planes now (vertex_at planes r (k - 1))
      → AreSignsAt planes (with_stop_signs false (stop_at r k).entries (with_stop_signs true (stop_at r (k - 1)).entries now)) (vertex_at planes r k)
  crossed k later lt now size signs =
      let before : k - 1 < length r.stops = omega (arith, lt) in
      let next : k ≡ (k - 1 + 1) % length r.stops = (let e : k - 1 + 1 ≡ k = omega (arith, later) in sym (ap (λ m. m % length r.stops) e ∙ mod-eq_of_lt lt)) in
      from_all planes (with_stop_signs false (stop_at r k).entries (with_stop_signs true (stop_at r (k - 1)).entries now)) (vertex_at planes r k)
      (circle.cross_signs planes (all planes) r apart ring (stop_at r (k - 1)) (stop_at r k) (k - 1) (there (k - 1) before)
      (subst (λ m. slice_get r.stops m ≡ Some (stop_at r k)) next (there k lt)) now size (to_linked planes (all planes) now (vertex_at planes r (k - 1)) signs))

-- what a crossing of a whole circle cites
pub ruleset crossing_steps = (stop_signs_same, entries_small, crossed)
