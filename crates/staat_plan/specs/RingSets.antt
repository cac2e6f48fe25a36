-- Rings of a table from which the planes that are none of a set of parts are taken out in their turn.
use Rattle.std.specs.Prelude.{◌≡◌, ◌⊎◌, ◌↔◌, ℕ, ◌<◌, ◌≤◌, Bool, List, [], Contains, Option, IfSome}
use Rattle.staat_pairs.specs.Tables.{Table}
use Rattle.staat_planes.specs.MarkedPlanes.{IsPlaneMarked}
use Rattle.staat_ring.specs.{Rings.{Arrangement, WereMadeFrom}, Walked.{WalkWasMadeFrom, Walked}}
use Rattle.staat_plan.specs.declared.walker.Walker.{Walker}

-- of so many planes those from k on are linked and those that are marked, and no others
abbrev pub AreLinkedOrPast : ℕ → List Bool → List ℕ → ℕ → Type 0
AreLinkedOrPast n marks linked k = (j : ℕ) → j < n → Contains linked j ↔ ((k ≤ j) ⊎ IsPlaneMarked marks j)

-- rings with all planes of the table, and a walk that was made from it
pub record AreForTable (t : Table) (rings : Arrangement) (walk : Walked) : Type 0 where
  pub made : WereMadeFrom t.planes rings
  pub whole : rings.unlinked ≡ []
  pub walk_is : WalkWasMadeFrom t walk

-- a walker, if there is one, is one for the table
abbrev pub IsReadyFor : Table → Option Walker → Type 0
IsReadyFor t walker = IfSome walker (λ x. AreForTable t x.rings x.walk)
