-- The circles of the linked planes, as they are kept: stops with the entries of the planes through them.
use Rattle.std.specs.Prelude.{◌≡◌, ◌⊎◌, ℕ, ◌<◌, List, [], ◌∷◌, length, map, take, All, Bool, true, false, Contains}
use Rattle.std.specs.Prelude.{Some, slice_get}
use Rattle.std.specs.List.Sorted.{IsStrictlySortedBy}
use Rattle.std.specs.Ordering.{nat_cmp}
use Rattle.staat_vec.specs.declared.vector.V3.{V3}
use Rattle.staat_vec.specs.Vectors.{cross, negative, origin}
use Rattle.staat_vec.specs.Primitives.{primitive}
use Rattle.staat_model.specs.Circles.{IsCircle, Stop}
use Rattle.staat_planes.specs.PairOrder.{plane_at}
use Rattle.staat_ring.specs.declared.entry.Entry.{Entry}

-- a stop on a circle: its node, and the entries of the other planes through it
pub record RingStop : Type 0 where
  pub node : ℕ
  pub entries : List Entry

-- the circle of a plane
pub record Ring : Type 0 where
  pub plane : ℕ
  pub stops : List RingStop

-- an unlinked plane with the circles that stood before
pub record UnlinkedPlane (R : Type 0) : Type 0 where
  pub plane : ℕ
  pub before : R

-- the circles of the linked planes, and the unlinked planes in the order of their unlinking
pub record Arrangement : Type 0 where
  pub rings : List Ring
  pub unlinked : List (UnlinkedPlane (List Ring))

abbrev pub linked_of : List Ring → List ℕ
linked_of rings = map (λ r. r.plane) rings

abbrev pub unlinked_of : List (UnlinkedPlane (List Ring)) → List ℕ
unlinked_of kept = map (λ k. k.plane) kept

-- ---- the vertices

-- the vector, or its negative
abbrev pub facet_by : Bool → V3 → V3
facet_by false n = n
facet_by true n = negative n

-- the direction in which the plane c and that of the entry cross
abbrev pub crossing : List V3 → ℕ → Entry → V3
crossing planes c e = facet_by e.turned (primitive (cross (plane_at planes c) (plane_at planes e.plane)))

abbrev pub vertex_of : List V3 → ℕ → List Entry → V3
vertex_of planes c [] = origin
vertex_of planes c (e ∷ es) = crossing planes c e

-- the stop as the definition of a circle has it
abbrev pub stop_of : List V3 → ℕ → RingStop → Stop
stop_of planes c s = record { vertex = vertex_of planes c s.entries; through = map (λ e. e.plane) s.entries }

-- each entry of the stop on the circle c names its vertex
abbrev pub NameVertex : List V3 → ℕ → RingStop → Type 0
NameVertex planes c s = All (λ e. crossing planes c e ≡ vertex_of planes c s.entries) s.entries

-- the circle of a plane among the linked ones
pub record IsRingOf (planes : List V3) (linked : List ℕ) (r : Ring) : Type 0 where
  pub circle : IsCircle planes linked r.plane (map (stop_of planes r.plane) r.stops)
  pub agree : All (NameVertex planes r.plane) r.stops

-- ---- made from a table

-- the circles of the linked planes, in the order of the planes; the axes are linked, and each plane is linked or out
pub record AreRings (planes : List V3) (rings : List Ring) (out : List ℕ) : Type 0 where
  pub each : All (IsRingOf planes (linked_of rings)) rings
  pub ascending : IsStrictlySortedBy nat_cmp (linked_of rings)
  pub axes : (a : ℕ) → a < 3 → Contains (linked_of rings) a
  pub all : (k : ℕ) → k < length planes → Contains (linked_of rings) k ⊎ Contains out k

-- the circles are those of these planes, and so were those before each unlinking
pub record WereMadeFrom (planes : List V3) (a : Arrangement) : Type 0 where
  pub now : AreRings planes a.rings (unlinked_of a.unlinked)
  pub before : (k : ℕ) (kept : UnlinkedPlane (List Ring)) → slice_get a.unlinked k ≡ Some kept
      → AreRings planes kept.before (unlinked_of (take k a.unlinked))
