-- The entries of a circle while it is built, and its stops.
use Rattle.std.specs.Prelude.{◌≡◌, ◌≢◌, ◌⊎◌, ℕ, ◌/◌, ◌%◌, ◌<◌, ◌≤◌, nat_eq, not, List, [], ◌∷◌, ◌++◌, map, Contains, length}
use Rattle.std.specs.Prelude.{pos, ◌<ℤ◌, slice_index_or}
use Rattle.std.specs.List.{between}
use Rattle.staat_vec.specs.declared.vector.V3.{V3}
use Rattle.staat_vec.specs.Vectors.{cross, det}
use Rattle.staat_vec.specs.Primitives.{primitive}
use Rattle.staat_limits.specs.declared.limits.TheConstants.{MOST_PLANES}
use Rattle.staat_ring.specs.declared.entry.Entry.{Entry}
use Rattle.staat_ring.specs.declared.keys.Key.{Key}
use Rattle.staat_ring.specs.Order.{HasEntryOfPlane, facet_of}
use Rattle.staat_ring.specs.Rings.{Ring}

-- the direction in which two planes cross
abbrev pub ray : V3 → V3 → V3
ray g h = primitive (cross g h)

-- h is ahead of the axis, or crosses where it does
abbrev pub IsUpper : V3 → V3 → V3 → Type 0
IsUpper g axis h = (pos 0 <ℤ det g axis h) ⊎ (ray g h ≡ ray g axis)

-- the entry of a plane other than c, turned so that it is on the half turn from the axis
pub record IsUpperEntry (planes : List V3) (c : ℕ) (g axis : V3) (e : Entry) : Type 0 where
  pub within : e.plane < length planes
  pub different : e.plane ≢ c
  pub upper : IsUpper g axis (facet_of planes e)

-- such entries, with one of each plane below n but c
pub record AreUpper (planes : List V3) (c : ℕ) (g axis : V3) (n : ℕ) (es : List Entry) : Type 0 where
  pub each : (e : Entry) → Contains es e → IsUpperEntry planes c g axis e
  pub all : (k : ℕ) → k < n → k ≢ c → HasEntryOfPlane es k

-- the entry of a key
abbrev pub key_entry : Key → Entry
key_entry k = record { plane = k.word / 2 % MOST_PLANES; turned = nat_eq (k.word % 2) 1 }

-- ---- the stops

abbrev pub slot_at : List (List Entry) → ℕ → List Entry
slot_at slots k = slice_index_or slots k []

-- entries as they are divided by the ends of stops, from a place on
abbrev pub stops_from : ℕ → List ℕ → List Entry → List (List Entry)
stops_from start [] es = []
stops_from start (end ∷ ends) es = between start end es ∷ stops_from end ends es

-- each stop ends where the next one begins, and the last one at n at the latest
abbrev pub AreStopsFrom : ℕ → ℕ → List ℕ → Type 0
AreStopsFrom start n [] = start ≤ n
AreStopsFrom start n (end ∷ ends) = (start ≤ end) × AreStopsFrom end n ends

-- the same plane, seen from the opposite vertex
abbrev pub opposite : Entry → Entry
opposite e = record { plane = e.plane; turned = not e.turned }

abbrev pub all_around : List (List Entry) → List (List Entry)
all_around slots = slots ++ map (λ es. map opposite es) slots

-- a circle, by the entries of its stops
abbrev pub ring_by : ℕ → List (List Entry) → Ring
ring_by c slots = record { plane = c; stops = map (λ es. record { node = 0; entries = es }) slots }
