-- Groups: parts by themselves and sets of parts that are stuck, held together by a core.
use Rattle.std.specs.Prelude.{◌≡◌, ◌⊎◌, ℕ, ◌≤◌, List, Contains, length}
use Rattle.std.specs.FinSet as set
use Rattle.staat_vec.specs.declared.vector.V3.{V3}
use Rattle.staat_model.specs.declared.assembly.Part.{Part}
use Rattle.staat_model.specs.declared.set.PartSet.{PartSet}
use Rattle.staat_model.specs.declared.certificate.Arc.{Arc}
use Rattle.staat_model.specs.Cores.{IsCrossingOn, IsFreeInCore, IsVertexOf}
use Rattle.staat_model.specs.Plans.{IsStuck}
use Rattle.staat_model.specs.SetLists.{AreAllApart, union_of}
use Rattle.staat_model.specs.Sets.{Has, IsSide, single}

-- a part by itself, or a set of parts that is stuck
abbrev pub IsNode : List Part → PartSet → Type 0
IsNode parts s = ((p : ℕ) × (s ≡ single p)) ⊎ IsStuck parts s

-- at least two nodes, of which no two have a part in common
pub record AreNodes (parts : List Part) (nodes : List PartSet) : Type 0 where
  pub two : 2 ≤ length nodes
  pub apart : AreAllApart nodes
  pub each : (s : PartSet) → Contains nodes s → IsNode parts s

-- s has all of each node or nothing of it
abbrev pub KeepsWhole : List PartSet → PartSet → Type 0
KeepsWhole nodes s = (t : PartSet) → Contains nodes t → (p q : ℕ) → Has t p → Has t q → Has s p → Has s q

-- the core holds the nodes together along d: of all their parts no side that keeps each node whole is free of the
-- rest, as far as the core's arcs tell
abbrev pub HoldsNodes : List Part → List Arc → List PartSet → V3 → Type 0
HoldsNodes parts core nodes d =
    (s : PartSet) → IsSide (union_of nodes) s → KeepsWhole nodes s →
    IsFreeInCore parts core s (set.difference (union_of nodes) s) d → ⊥

-- it does so wherever two of the planes cross
abbrev pub HoldsNodesAtVertices : List Part → List Arc → List PartSet → List V3 → Type 0
HoldsNodesAtVertices parts core nodes planes = (v : V3) → IsVertexOf planes v → HoldsNodes parts core nodes v

-- it does so wherever the plane of g crosses one of the planes
abbrev pub HoldsNodesAtCrossings : List Part → List Arc → List PartSet → V3 → List V3 → Type 0
HoldsNodesAtCrossings parts core nodes g planes = (v : V3) → IsCrossingOn g planes v → HoldsNodes parts core nodes v
