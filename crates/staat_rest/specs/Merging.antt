-- The merged product: a part for each node, with the pieces of the node's parts, and the origins of these pieces.
use Rattle.std.specs.Prelude.{◌≡◌, ℕ, ◌<◌, ◌^◌, List, [], All, Contains, Some, get_or, length, map}
use Rattle.std.specs.List.{AllZip}
use Rattle.std.specs.Ordering.{nat_cmp}
use Rattle.staat_vec.specs.Lists.{Lists}
use Rattle.staat_model.specs.declared.assembly.Part.{Part}
use Rattle.staat_model.specs.Assemblies.{piece_at, piece_count}
use Rattle.staat_holds.specs.Chains.{IsName}
use Rattle.staat_rest.specs.declared.merging.Origin.{Origin}
use Rattle.staat_rest.specs.Nodes.{IsInNode}

-- the names of the nodes, ascending
abbrev pub AreHeads : List ℕ → List ℕ → Type 0
AreHeads names heads = Lists nat_cmp (IsName names) heads

-- the pieces of the parts of the node n, by part and piece
pub record AreOrigins (parts : List Part) (names : List ℕ) (n : ℕ) (origins : List Origin) : Type 0 where
  pub each : All (λ o. IsInNode names n o.part × (o.piece < piece_count parts o.part)) origins
  pub all : (p i : ℕ) → IsInNode names n p → i < piece_count parts p
      → Contains origins (record { part = p; piece = i })
  pub few : length origins < 2 ^ 32

-- the pieces of the part are copies of these
abbrev pub IsMergedPart : List Part → List Origin → Part → Type 0
IsMergedPart parts origins part = map (λ o. piece_at parts o.part o.piece) origins ≡ map Some part.pieces

-- a part for each node, in the order of their names, whose pieces come from the parts of that node
pub record AreMerged (parts : List Part) (names heads : List ℕ) (origins : List (List Origin)) (merged : List Part)
    : Type 0 where
  pub heads_are : AreHeads names heads
  pub origins_are : AllZip (AreOrigins parts names) heads origins
  pub merged_are : AllZip (IsMergedPart parts) origins merged

-- the part and the piece that the piece i of the merged part a was
abbrev pub origin_at : List (List Origin) → (a i : ℕ) → Origin
origin_at origins a i = get_or (get_or origins a []) i (record { part = 0; piece = 0 })
