-- The step that is chosen for a set of parts, and the outcome that the planner has to find.
use Rattle.std.specs.Prelude.{◌≡◌, ℕ, ◌≤◌, Bool, true, false, List, [], ◌∷◌, ◌++◌, map, All}
use Rattle.std.specs.FinSet as set
use Rattle.staat_vec.specs.declared.vector.V3.{V3}
use Rattle.staat_model.specs.declared.assembly.Part.{Part}
use Rattle.staat_model.specs.declared.set.PartSet.{PartSet}
use Rattle.staat_model.specs.declared.tree.Kind.{Kind}
use Rattle.staat_model.specs.declared.tree.Kind.TheVariants.{Point, Edge, Open}
use Rattle.staat_model.specs.declared.tree.Outcome.{Outcome}
use Rattle.staat_model.specs.declared.tree.Outcome.TheVariants as outcome
use Rattle.staat_model.specs.Cells.{CellEntry, AreCellsOf}
use Rattle.staat_vec.specs.Lists.{IsFirst}
use Rattle.staat_model.specs.Planes.{ArePlanes, vertices}
use Rattle.staat_model.specs.Plans.{Plan, leaf, plan_of, split}
use Rattle.staat_model.specs.Meeting.{Meets}
use Rattle.staat_model.specs.Removal.{IsFreeBy}
use Rattle.staat_model.specs.Sets.{Has, IsNonempty, IsSide, IsSubset, single}

-- along d some side of w comes free of the rest
pub record ServesBy (R : List V3 → List V3 → V3 → Type 0) (parts : List Part) (w : PartSet) (d : V3)
    : Type 0 where
  pub side : PartSet
  pub is_side : IsSide w side
  pub free : IsFreeBy R parts side (set.difference w side) d

-- s is free of the rest of w, and no side of s is free of what it leaves of w
pub record IsMinimalBy (R : List V3 → List V3 → V3 → Type 0) (parts : List Part) (w : PartSet) (d : V3)
    (s : PartSet)
    : Type 0 where
  pub nonempty : IsNonempty s
  pub within : IsSubset s w
  pub free : IsFreeBy R parts s (set.difference w s) d
  pub minimal : (t : PartSet) → IsSide s t → IsFreeBy R parts t (set.difference w t) d → ⊥

-- of the minimal sides the one that holds the least part number
pub record IsMovedSideBy (R : List V3 → List V3 → V3 → Type 0) (parts : List Part) (w : PartSet) (d : V3)
    (s : PartSet)
    : Type 0 where
  pub is : IsMinimalBy R parts w d s
  pub least : ℕ
  pub has : Has s least
  pub first : (t : PartSet) (q : ℕ) → IsMinimalBy R parts w d t → Has t q → least ≤ q

-- the same where pieces are in the way that are met sooner or later
abbrev pub Serves : List Part → PartSet → V3 → Type 0
Serves = ServesBy Meets

abbrev pub IsMinimal : List Part → PartSet → V3 → PartSet → Type 0
IsMinimal = IsMinimalBy Meets

abbrev pub IsMovedSide : List Part → PartSet → V3 → PartSet → Type 0
IsMovedSide = IsMovedSideBy Meets

-- a direction to try, with the mark of a step along it, which only a robust plan has
pub record Try : Type 0 where
  pub d : V3
  pub mark : List Kind

abbrev pub try_vertex : V3 → Try
try_vertex v = record { d = v; mark = [] }

abbrev pub try_cell : CellEntry → Try
try_cell c = record { d = c.d; mark = c.kind ∷ [] }

-- in a plan that is not robust: the vertices of the planes in pair order
pub record AreVertexTries (parts : List Part) (w : PartSet) (tries : List Try) : Type 0 where
  pub planes : List V3
  pub planes_are : ArePlanes parts w planes
  pub is : tries ≡ map try_vertex (vertices planes)

-- in a robust plan: the representatives of the open cells, then of the edges, then of the points
pub record AreCellTries (parts : List Part) (w : PartSet) (tries : List Try) : Type 0 where
  pub planes : List V3
  pub planes_are : ArePlanes parts w planes
  pub opens : List CellEntry
  pub edges : List CellEntry
  pub points : List CellEntry
  pub opens_are : AreCellsOf planes Open opens
  pub edges_are : AreCellsOf planes Edge edges
  pub points_are : AreCellsOf planes Point points
  pub is : tries ≡ map try_cell (opens ++ edges ++ points)

abbrev pub AreTries : Bool → List Part → PartSet → List Try → Type 0
AreTries false parts w tries = AreVertexTries parts w tries
AreTries true parts w tries = AreCellTries parts w tries

-- the chosen step of w: the first direction that serves w, and the side that moves along it
pub record IsStep (robust : Bool) (parts : List Part) (w : PartSet) (try : Try) (side : PartSet) : Type 0 where
  pub tries : List Try
  pub tries_are : AreTries robust parts w tries
  pub first : IsFirst (λ t. Serves parts w t.d) tries try
  pub moved : IsMovedSide parts w try.d side

-- no direction that is tried serves w
pub record HasNoStep (robust : Bool) (parts : List Part) (w : PartSet) : Type 0 where
  pub tries : List Try
  pub tries_are : AreTries robust parts w tries
  pub none : All (λ t. Serves parts w t.d → ⊥) tries

-- an outcome, as a value: a plan with its marks in preorder, or a set that no step takes apart
pub data Finding : Type 0 where
  planned : (plan : Plan) → (marks : List Kind) → Finding
  stuck : (set : PartSet) → Finding

-- what an `Outcome` says
abbrev pub finding_of : Outcome → Finding
finding_of (outcome.Plan tree marks) = planned (plan_of tree) marks
finding_of (outcome.Stuck w) = stuck w

-- The outcome for a set of parts: a leaf; the set itself where it has no step; the first side that is stuck; or the
-- split of two plans.
pub data IsOutcome (robust : Bool) (parts : List Part) : PartSet → Finding → Type 0 where
  one_part : {w : PartSet} {p : ℕ} → w ≡ single p → IsOutcome robust parts w (planned (leaf p) [])
  no_step : {w : PartSet} → 2 ≤ set.len w → HasNoStep robust parts w → IsOutcome robust parts w (stuck w)
  moved_stuck : {w side a : PartSet} {try : Try} → 2 ≤ set.len w → IsStep robust parts w try side
      → IsOutcome robust parts side (stuck a) → IsOutcome robust parts w (stuck a)
  rest_stuck : {w side a : PartSet} {try : Try} {plan : Plan} {marks : List Kind} → 2 ≤ set.len w
      → IsStep robust parts w try side → IsOutcome robust parts side (planned plan marks)
      → IsOutcome robust parts (set.difference w side) (stuck a) → IsOutcome robust parts w (stuck a)
  both_planned : {w side : PartSet} {try : Try} {moved rest : Plan} {d : V3} {ms rs marks : List Kind}
      → 2 ≤ set.len w
      → IsStep robust parts w try side → IsOutcome robust parts side (planned moved ms)
      → IsOutcome robust parts (set.difference w side) (planned rest rs) → d ≡ try.d
      → marks ≡ try.mark ++ ms ++ rs
      → IsOutcome robust parts w (planned (split d moved rest) marks)
