-- Rings without a plane, and what unlinking and relinking a plane do.
use Rattle.std.specs.Prelude.{◌≡◌, ℕ, List, [], ◌∷◌, ◌++◌, map, Bool, true, false, not, ◌==◌}
use Rattle.std.specs.List.{filter}
use Rattle.staat_ring.specs.declared.entry.Entry.{Entry}
use Rattle.staat_ring.specs.Rings.{Arrangement, UnlinkedPlane, Ring, RingStop}

abbrev pub other_than : ℕ → Entry → Bool
other_than p e = not (e.plane == p)

abbrev pub has_some : List Entry → Bool
has_some [] = false
has_some (e ∷ es) = true

abbrev pub stop_without : ℕ → RingStop → RingStop
stop_without p s = record { node = s.node; entries = filter (other_than p) s.entries }

-- another plane passes through the stop
abbrev pub stays : ℕ → RingStop → Bool
stays p s = has_some (filter (other_than p) s.entries)

abbrev pub ring_without : ℕ → Ring → Ring
ring_without p r = record { plane = r.plane; stops = map (stop_without p) (filter (stays p) r.stops) }

-- the circle of p and its entries are out, and so are the stops that have no entry left
abbrev pub rings_without : ℕ → List Ring → List Ring
rings_without p rings = map (ring_without p) (filter (λ r. not (r.plane == p)) rings)

-- an unlinked plane with the circles that stood before
abbrev pub unlinked_plane : ℕ → List Ring → UnlinkedPlane (List Ring)
unlinked_plane p rings = record { plane = p; before = rings }

-- b is a without the plane p, which joins the unlinked planes with the circles of a
pub record IsUnlinked (p : ℕ) (a b : Arrangement) : Type 0 where
  pub rings : b.rings ≡ rings_without p a.rings
  pub unlinked : b.unlinked ≡ a.unlinked ++ unlinked_plane p a.rings ∷ []

-- p is the last of the unlinked planes
pub record IsLastUnlinked (p : ℕ) (a : Arrangement) : Type 0 where
  pub others : List (UnlinkedPlane (List Ring))
  pub before : List Ring
  pub is : a.unlinked ≡ others ++ unlinked_plane p before ∷ []

-- p, the last of the unlinked planes of a, leaves them, and the circles of b are those that stood before
abbrev pub IsRelinked : ℕ → Arrangement → Arrangement → Type 0
IsRelinked p a b = a.unlinked ≡ b.unlinked ++ unlinked_plane p b.rings ∷ []
