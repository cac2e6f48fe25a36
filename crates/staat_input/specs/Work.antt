-- The work on a request: its steps in their order, and what each finds in the files.
use Rattle.std.specs.Prelude.{◌≡◌, ◌⊎◌, ◌<◌, ◌≤◌, ℕ, List, [], ◌∷◌, length, Result, Ok}
use Rattle.std.specs.Prelude.{Err, Some, ⊤}
use Rattle.staat_fault.specs.declared.fault.Fault.{Fault}
use Rattle.staat_fault.specs.declared.fault.Fault.TheVariants.{ReadFault, TooLong, OutOfMemory}
use Rattle.staat_edge.specs.Files.{bytes_of}
use Rattle.staat_edge.specs.Fitting.{IsLonger}
use Rattle.staat_edge.specs.Told.{ShelfTold}
use Rattle.staat_limits.specs.declared.limits.TheConstants.{FILE_LIMIT}
use Rattle.staat_input.specs.declared.answer.Answer.{Answer}

abbrev pub Files : Type 0
Files = List (List ℕ × List ℕ)

-- What a step finds: a value, or the fault at which the work ends. At a read fault the file is to be read next.
abbrev pub Found : Type 0 → Type 0
Found X = Result X Fault

-- One step after another is a step: it finds the fault of the first, or what the second finds of what the first gives.
abbrev pub Then : {X Y : Type 0} → (Found X → Type 0) → (X → Found Y → Type 0) → Found Y → Type 0
Then {X} First Second found =
    ((fault : Fault) × First (Err fault) × (found ≡ Err fault)) ⊎ ((x : X) × First (Ok x) × Second x found)

-- A step for each member of a list in turn is a step: it gives what they give, or finds the first fault.
abbrev pub Each : {X Y : Type 0} → (X → Found Y → Type 0) → List X → Found (List Y) → Type 0
Each Step [] found = found ≡ Ok []
Each Step (x ∷ xs) found = Then (Step x) (λ y. Then (Each Step xs) (λ ys found. found ≡ Ok (y ∷ ys))) found

-- What the step finds that takes a whole file of at most so many bytes: the file is to be read, or is too long, or
-- this is what its bytes say.
pub data IsTakenWithin {X : Type 0} (limit : ℕ) (files : Files) (name : List ℕ)
    (Says : List ℕ → Found X → Type 0) : Found X → Type 0 where
  to_read : {found : Found X} → found ≡ Err (ReadFault name) → IsTakenWithin limit files name Says found
  too_long : {found : Found X} (bytes : List ℕ) → bytes_of name files ≡ Some bytes → limit < length bytes →
      found ≡ Err (TooLong name) → IsTakenWithin limit files name Says found
  taken : {found : Found X} (bytes : List ℕ) → bytes_of name files ≡ Some bytes → length bytes ≤ limit →
      Says bytes found → IsTakenWithin limit files name Says found

-- the same of a file of points or a part list
abbrev pub IsTaken : {X : Type 0} → Files → List ℕ → (List ℕ → Found X → Type 0) → Found X → Type 0
IsTaken files name Says = IsTakenWithin FILE_LIMIT files name Says

-- a call answers what the step finds; want of memory is free
abbrev pub Follows : {X : Type 0} → (Found X → Type 0) → Result X Fault → Type 0
Follows Step (Err OutOfMemory) = ⊤
Follows Step found = Step found

-- why a whole file was not taken: it could not be read, or it is longer than the limit, or there was no memory
abbrev pub IsNotTakenWithin : ℕ → ShelfTold → List ℕ → Fault → Type 0
IsNotTakenWithin limit told name (ReadFault at) = at ≡ name
IsNotTakenWithin limit told name (TooLong at) = (at ≡ name) × IsLonger told name limit
IsNotTakenWithin limit told name OutOfMemory = ⊤
IsNotTakenWithin limit told name fault = ⊥

-- the same of a file of points or a part list
abbrev pub IsNotTaken : ShelfTold → List ℕ → Fault → Type 0
IsNotTaken told name fault = IsNotTakenWithin FILE_LIMIT told name fault

-- an answer with this status and this text
abbrev pub answer : ℕ → List ℕ → Answer
answer status text = record { status = status; text = text }
