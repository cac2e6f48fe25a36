-- A walk along the circles of rings, and where it stands.
use Rattle.std.specs.Prelude.{◌≡◌, ◌≢◌, ℕ, List}
use Rattle.staat_vec.specs.declared.vector.V3.{V3}
use Rattle.staat_vec.specs.declared.vector.TheConstants.{NORMAL}
use Rattle.staat_vec.specs.Vectors.{IsWithin, cross, origin}
use Rattle.staat_pairs.specs.Tables.{Table}
use Rattle.staat_ring.specs.Belonging.{BelongTo, HoldSigns}
use Rattle.staat_ring.specs.Places.{IsStopAt}
use Rattle.staat_ring.specs.Rings.{Ring, RingStop, linked_of, vertex_of}
use Rattle.staat_ring.specs.CountedSigns.{Signed}

-- two normals that are not parallel, and not too great
pub record DoCross (own other : V3) : Type 0 where
  pub apart : cross own other ≢ origin
  pub own_within : IsWithin NORMAL own
  pub other_within : IsWithin NORMAL other

-- the signs, how often the walk crossed, the circle, the place on it and its node, and the vertex
pub record Walked : Type 0 where
  pub signs : Signed
  pub crossed : ℕ
  pub circle : ℕ
  pub place : ℕ
  pub node : ℕ
  pub vertex : V3

-- the walk was made from the table: it has a sign for each of its planes, and it knows the facets of each ordered pair
-- of pieces of different parts, each by its plane
abbrev pub WalkWasMadeFrom : Table → Walked → Type 0
WalkWasMadeFrom t w = BelongTo t w.signs

-- P holds of the stop at which the walk stands
abbrev pub AtStop : (rings : List Ring) (w : Walked)
    → ((s : RingStop) → IsStopAt rings w.circle w.place s → Type 0) → Type 0
AtStop rings w P = (s : RingStop) → (at : IsStopAt rings w.circle w.place s) → s.node ≡ w.node → P s at

-- the walk stands at a stop of the rings, and holds the signs there
pub record IsEntered (planes : List V3) (rings : List Ring) (w : Walked) : Type 0 where
  pub stop : RingStop
  pub at : IsStopAt rings w.circle w.place stop
  pub node : stop.node ≡ w.node
  pub vertex : w.vertex ≡ vertex_of planes w.circle stop.entries
  pub signs : HoldSigns planes (linked_of rings) w.signs w.vertex
