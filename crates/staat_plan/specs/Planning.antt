-- What the planner finds for a set of parts.
use Rattle.std.specs.Option.{option_to_list}
use Rattle.std.specs.Prelude.{◌≡◌, ◌≤◌, ◌++◌, ℕ, List, Option, Bool, All, MatchOption, false, length, true}
use Rattle.staat_limits.specs.declared.limits.TheConstants.{LEAST_PLANES, MOST_CELL_PLANES, MOST_PLANES}
use Rattle.staat_vec.specs.{Lists.IsFirst, declared.vector.TheConstants.DIRECTION}
use Rattle.staat_model.specs.Outcomes.{Finding, HasNoStep, IsMovedSide, IsOutcome, IsStep, Serves, Try, finding_of}
use Rattle.staat_model.specs.Outcomes.{planned, stuck, try_vertex}
use Rattle.staat_model.specs.{Plans.{IsGood, IsStuck, split}, Sets.{IsSubset, below}, declared.assembly.Part.Part}
use Rattle.staat_model.specs.{declared.set.PartSet.PartSet, declared.tree.Outcome.Outcome, declared.tree.Step.Step}
use Rattle.staat_pairs.specs.Tables.{Table, WasMadeFrom}
use Rattle.staat_planes.specs.Refusals.{IsTableWithin}
use Rattle.staat_certify.specs.{Certifying.HasFewPlanes, Plans.AreWithin}
use Rattle.staat_plan.specs.{declared.marked.Marked.Marked, declared.planner.Options.Options}

-- the table is that of all parts and has no more planes than are allowed, and so many are within the limits
pub record IsPlanner (parts : List Part) (t : Table) (options : Options) : Type 0 where
  pub all : IsTableWithin parts (below (length parts)) options.planes t
  pub least : LEAST_PLANES ≤ options.planes
  pub most : options.planes ≤ MOST_PLANES
  pub cells : options.robust ≡ true → options.planes ≤ MOST_CELL_PLANES

-- each direction of a plan that is found is within the bound
abbrev pub IsSized : Finding → Type 0
IsSized (planned plan marks) = AreWithin DIRECTION plan
IsSized (stuck a) = Unit {0}

-- the direction of a step, with its mark
abbrev pub try_of : Marked → Try
try_of m = record { d = m.step.d; mark = option_to_list m.mark }

-- the finding for a set from those for its two sides
abbrev pub joined_finding : Marked → Finding → Finding → Finding
joined_finding m (stuck a) rest = stuck a
joined_finding m (planned moved ms) (stuck b) = stuck b
joined_finding m (planned moved ms) (planned rest rs) =
    planned (split m.step.d moved rest) (option_to_list m.mark ++ ms ++ rs)

-- the first of these directions that serves w is that of the step, which has its mark, and the side moves along it
pub record IsFirstOf {X : Type 0} (try : X → Try) (parts : List Part) (w : PartSet) (xs : List X)
    (m : Marked) : Type 0
  where
    pub at : X
    pub first : IsFirst (λ x. Serves parts w (try x).d) xs at
    pub is : try_of m ≡ try at
    pub moved : IsMovedSide parts w (try at).d m.step.moved

-- such a step, if one of them serves
abbrev pub IsFoundAmong : {X : Type 0} → (X → Try) → List Part → PartSet → List X → Option Marked → Type 0
IsFoundAmong try parts w xs found =
    MatchOption found (All (λ x. Serves parts w (try x).d → ⊥) xs) (IsFirstOf try parts w xs)

-- the step of w, if it has one
abbrev pub IsStepOf : Bool → List Part → PartSet → Option Marked → Type 0
IsStepOf robust parts w found =
    MatchOption found (HasNoStep robust parts w) (λ m. IsStep robust parts w (try_of m) m.step.moved)

-- so of a set w of parts of a table
abbrev pub IsSetStep : Bool → Table → PartSet → Option Marked → Type 0
IsSetStep robust t w found = (parts : List Part) → WasMadeFrom parts t → IsStepOf robust parts w found

-- so of a plan that is not robust, whose steps have no marks
abbrev pub IsVertexStep : Table → PartSet → Option Step → Type 0
IsVertexStep t w found = (parts : List Part) → WasMadeFrom parts t
    → MatchOption found (HasNoStep false parts w) (λ s. IsStep false parts w (try_vertex s.d) s.moved)

-- the outcome of w, whose planes are no more than the limit
pub record IsOutcomeOf (robust : Bool) (parts : List Part) (w : PartSet) (limit : ℕ) (o : Outcome) : Type 0 where
  pub few : HasFewPlanes parts w limit
  pub sized : IsSized (finding_of o)
  pub is : IsOutcome robust parts w (finding_of o)

-- a plan takes w apart, and a set that is named as stuck lies in w and is stuck
abbrev pub Settles : List Part → PartSet → Finding → Type 0
Settles parts w (planned plan marks) = IsGood parts w plan
Settles parts w (stuck a) = IsSubset a w × IsStuck parts a
