-- What may move away from the rest of a set of parts, and whether some of it can.
use Rattle.std.specs.Prelude.{◌≡◌, ◌⊎◌, ℕ, List}
use Rattle.std.specs.FinSet as set
use Rattle.staat_vec.specs.declared.vector.V3.{V3}
use Rattle.staat_model.specs.declared.assembly.Part.{Part}
use Rattle.staat_model.specs.declared.set.PartSet.{PartSet}
use Rattle.staat_model.specs.declared.certificate.Arc.{Arc}
use Rattle.staat_model.specs.Cores.{IsFreeInCore}
use Rattle.staat_model.specs.Sets.{Has, IsSide, single}
use Rattle.staat_graph.specs.Graphs.{IsShut}
use Rattle.staat_core.specs.declared.joins.Moving.{Moving}
use Rattle.staat_core.specs.declared.joins.Moving.TheVariants.{AnySide, OnePart}

-- s may move away from the rest of w: it is any side, or one part by itself or all parts but one
abbrev pub IsMove : Moving → PartSet → PartSet → Type 0
IsMove AnySide w s = IsSide w s
IsMove OnePart w s = (p : ℕ) × Has w p × ((s ≡ single p) ⊎ (s ≡ set.difference w (single p)))

-- an arc leads from each of them to the rest
abbrev pub IsHeldIn : (ℕ → ℕ → Type 0) → Moving → PartSet → Type 0
IsHeldIn R moving w = (s : PartSet) → IsMove moving w s → IsShut R w s → ⊥

-- no arc leads from the part p to the rest of w, or none from the rest to p
abbrev pub MovesPart : (ℕ → ℕ → Type 0) → PartSet → ℕ → Type 0
MovesPart R w p = IsShut R w (single p) ⊎ IsShut R w (set.difference w (single p))

-- as far as the arcs tell, none of them is free of the rest along d
abbrev pub HoldsMoves : List Part → List Arc → Moving → PartSet → V3 → Type 0
HoldsMoves parts arcs moving w d =
    (s : PartSet) → IsMove moving w s → IsFreeInCore parts arcs s (set.difference w s) d → ⊥
