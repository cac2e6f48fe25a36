-- What a call tells of the shelf on which it takes a step of the work.
use Rattle.std.specs.Prelude.{◌≡◌, ◌<◌, ◌≤◌, List, ℕ, IfErr, IfOk, is_ok}
use Rattle.staat_edge.specs.Fitting.{Fit}
use Rattle.staat_edge.specs.Opening.{OpensFiles}
use Rattle.staat_edge.specs.Told.{ShelfTold}
use Rattle.staat_fault.specs.declared.fault.Fault.{Fault}
use Rattle.staat_input.specs.declared.answer.Answer.{Answer}
use Rattle.staat_input.specs.Causes.{HasCause, IfTooLong, ShelfSide, over}
use Rattle.staat_input.specs.Work.{Files, Follows, Found}

-- the shelf holds the same files as before, and has failed as often or more often
pub record IsLaterShelf (before now : ShelfTold) : Type 0 where
  pub holds : now.holds ≡ before.holds
  pub count : before.faults ≤ now.faults

-- The call answers what the step finds, and so were files opened; and it is shown why a fault came, and which file is
-- too long.
pub record TakesStep {X : Type 0} (Step : Files → Found X → Type 0) (Opened : Found X → Type 0) (Long : List ℕ → Type 0)
    (before now : ShelfTold) (result : Found X) : Type 0 where
  pub holds : now.holds ≡ before.holds
  pub count : before.faults ≤ now.faults
  pub opens : Opened result
  pub found : (files : Files) → Fit now files → Follows (Step files) result
  pub cause : IfErr result (HasCause (over before now))
  pub named : IfErr result (IfTooLong Long)

-- the same of a step that opens these files
abbrev pub TakesFiles : {X : Type 0} → (Files → Found X → Type 0) → List (List ℕ) → (List ℕ → Type 0) → ShelfTold →
    ShelfTold → Found X → Type 0
TakesFiles Step names Long before now result =
    TakesStep Step (λ found. OpensFiles (is_ok found) names before now) Long before now result

-- The call does the work of a command: it answers what the work finds, with status 0 or 1; so were files opened, and it
-- is shown why a fault came.
pub record DoesWork (Work : Files → Found Answer → Type 0) (Opened : ShelfTold → ShelfTold → Type 0)
    (Cause : ShelfSide → Fault → Type 0) (before now : ShelfTold) (result : Found Answer) : Type 0 where
  pub holds : now.holds ≡ before.holds
  pub count : before.faults ≤ now.faults
  pub status : IfOk result (λ a. a.status < 2)
  pub opens : Opened before now
  pub found : (files : Files) → Fit now files → Follows (Work files) result
  pub cause : IfErr result (Cause (over before now))

-- The call answers what the step finds, with status 0 or 1, and takes nothing from the shelf, so that a fault has its
-- cause whatever the shelf tells.
pub record IsWorkedOut (Step : Found Answer → Type 0) (result : Found Answer) : Type 0 where
  pub status : IfOk result (λ a. a.status < 2)
  pub found : Follows Step result
  pub cause : (shelf : ShelfSide) → IfErr result (HasCause shelf)
