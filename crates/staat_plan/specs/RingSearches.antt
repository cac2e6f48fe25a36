-- What a walk along a circle finds: the first of the vertices that serve, in the order of pairs of planes.
use Rattle.std.specs.{List.sum_by, Prelude.{◌≡◌, ℕ, ◌+◌, ◌*◌, ◌<◌, ◌≤◌, ◌==◌, List, Option, Some, Contains}}
use Rattle.std.specs.Prelude.{cond, if◌then◌else◌, length, nat_lt, slice_get}
use Rattle.staat_vec.specs.declared.vector.V3.{V3}
use Rattle.staat_model.specs.{Outcomes.{IsMovedSide, Serves}, declared.assembly.Part.Part, declared.set.PartSet.PartSet}
use Rattle.staat_ring.specs.{Rings.{Ring, RingStop, crossing, vertex_of}, declared.entry.Entry.Entry}
use Rattle.staat_plan.specs.declared.ring_step.Serving.{Serving}

-- the order of the vertices on one circle: by the number of the plane, and the crossing before its negative
abbrev pub pair_key : Entry → ℕ
pair_key e = 2 * e.plane + (if e.turned then 1 else 0)

-- the entry goes through a stop that serves, and the side is the one that moves along its vertex
pub record IsServing (parts : List Part) (planes : List V3) (w : PartSet) (i : ℕ) (s : RingStop) (f : Serving) :
    Type 0 where
  pub listed : Contains s.entries f.entry
  pub later : i < f.entry.plane
  pub serves : Serves parts w (vertex_of planes i s.entries)
  pub moved : IsMovedSide parts w (vertex_of planes i s.entries) f.moved

-- what was found comes no later than the entry
abbrev pub IsNoLater : Option Serving → Entry → Type 0
IsNoLater best e = (f : Serving) × (best ≡ Some f) × (pair_key f.entry ≤ pair_key e)

-- of the first m stops the best entry, if there is one
pub record IsBest (parts : List Part) (planes : List V3) (w : PartSet) (i : ℕ) (stops : List RingStop) (m : ℕ)
    (best : Option Serving) : Type 0 where
  pub right : (f : Serving) → best ≡ Some f → (s : RingStop) × Contains stops s
      × IsServing parts planes w i s f
  pub least : (k : ℕ) (s : RingStop) (e : Entry) → k < m → slice_get stops k ≡ Some s
      → Serves parts w (vertex_of planes i s.entries) → Contains s.entries e → i < e.plane
      → IsNoLater best e

-- the length of the circle of plane c
unfoldable pub length_at : ℕ → List Ring → ℕ
length_at c rings = sum_by (λ r. cond (r.plane == c) (length r.stops) 0) rings

-- the lengths of the circles of the planes before k
unfoldable pub lengths_below : ℕ → List Ring → ℕ
lengths_below k rings = sum_by (λ r. cond (nat_lt r.plane k) (length r.stops) 0) rings

-- no vertex of a circle before i, with a later plane, serves
abbrev pub NoneServes : List Part → List V3 → PartSet → List ℕ → ℕ → Type 0
NoneServes parts planes w linked i = (h : ℕ) (e : Entry) → Contains linked h → Contains linked e.plane
    → h < i → h < e.plane → Serves parts w (crossing planes h e) → ⊥

-- no stop of a circle of a plane before k serves
abbrev pub NoStopServes : List Part → List V3 → PartSet → List Ring → ℕ → Type 0
NoStopServes parts planes w rings k = (r : Ring) (s : RingStop) → Contains rings r → r.plane < k
    → Contains r.stops s → Serves parts w (vertex_of planes r.plane s.entries) → ⊥

-- the entry's plane comes after plane i, and is one of so many
pub record IsLater (i n : ℕ) (f : Serving) : Type 0 where
  pub later : i < f.entry.plane
  pub small : f.entry.plane < n

-- some stop of the circle of plane i serves
pub record HasServing (parts : List Part) (planes : List V3) (w : PartSet) (rings : List Ring) (i : ℕ) : Type 0 where
  pub ring : Ring
  pub stop : RingStop
  pub listed : Contains rings ring
  pub plane : ring.plane ≡ i
  pub on : Contains ring.stops stop
  pub serves : Serves parts w (vertex_of planes ring.plane stop.entries)
