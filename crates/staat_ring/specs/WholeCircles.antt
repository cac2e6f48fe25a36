-- The circle of a plane among all planes of a table, and the signs of the planes at its vertices.
use Rattle.std.specs.Prelude.{◌≡◌, ◌↔◌, ℕ, ◌<◌, ◌≤◌, List, [], Contains, Some, length, slice_get, slice_index_or}
use Rattle.staat_vec.specs.declared.vector.V3.{V3}
use Rattle.staat_vec.specs.Vectors.{dot, sign}
use Rattle.staat_ring.specs.CountedSigns.{Signed, positives, state_at}
use Rattle.staat_ring.specs.Pairs.{pair_at}
use Rattle.staat_ring.specs.Rings.{IsRingOf, Ring, RingStop, vertex_of}

-- the circle is that of a plane of the table, with all planes linked
pub record IsWholeCircle (planes : List V3) (r : Ring) : Type 0 where
  pub small : r.plane < length planes
  pub is : (linked : List ℕ) → ((j : ℕ) → j < length planes → Contains linked j) → IsRingOf planes linked r

abbrev pub no_stop : RingStop
no_stop = record { node = 0; entries = [] }

abbrev pub stop_at : Ring → ℕ → RingStop
stop_at r k = slice_index_or r.stops k no_stop

-- the vertex k of the circle
abbrev pub vertex_at : List V3 → Ring → ℕ → V3
vertex_at planes r k = vertex_of planes r.plane (stop_at r k).entries

-- each plane has its sign at v
abbrev pub AreSignsAt : List V3 → Signed → V3 → Type 0
AreSignsAt planes s v = (k : ℕ) (n : V3) → slice_get planes k ≡ Some n
    → (state_at s.states k).sign ≡ sign (dot n v)

-- all facets of the pair q are positive
abbrev pub IsFull : Signed → ℕ → Type 0
IsFull s q = (pair_at s.pairs q).wanted ≤ positives q s.states

-- the same pairs have positive facets alone
abbrev pub HaveSameFull : Signed → Signed → Type 0
HaveSameFull s t = (q : ℕ) → IsFull s q ↔ IsFull t q
