-- What shows why a fault came that stops the reading of an input.
use Rattle.std.specs.Prelude.{◌≡◌, ◌⊎◌, ◌<◌, ℕ, List, Some, IsSomeAnd, Contains, ⊤}
use Rattle.staat_edge.specs.Causes.{Rose}
use Rattle.staat_edge.specs.Files.{Lacks, told_name, held_name}
use Rattle.staat_edge.specs.Told.{ShelfTold}
use Rattle.staat_words.specs.declared.request.Input.{Input}
use Rattle.staat_words.specs.declared.request.Input.TheVariants as inputs
use Rattle.staat_fault.specs.declared.fault.Fault.{Fault}
use Rattle.staat_fault.specs.declared.fault.Fault.TheVariants.{Usage, ReadFault, TooLong, WriteFault}
use Rattle.staat_limits.specs.declared.limits.TheConstants.{FILE_LIMIT}

-- What a shelf or a sink tells before a call and after it.
pub record Over (T : Type 0) : Type 0 where
  pub old : T
  pub new : T

abbrev pub over : {T : Type 0} → T → T → Over T
over old new = record { old = old; new = new }

abbrev pub ShelfSide : Type 0
ShelfSide = Over ShelfTold

-- the shelf lacks the file, or it failed, and at that file if it holds it
abbrev pub IsUnread : ShelfSide → List ℕ → Type 0
IsUnread shelf name = Lacks shelf.old.holds name ⊎
    (Rose shelf.old.faults shelf.new.faults ×
    (held_name shelf.old.holds name ≡ Some name → shelf.new.failed ≡ Some name))

-- more bytes than that were taken of the file, which is still open
pub record IsPastLimit (limit : ℕ) (shelf : ShelfSide) (name : List ℕ) : Type 0 where
  pub place : IsSomeAnd shelf.new.place (λ at. limit < at)
  pub opened : shelf.new.opened ≡ told_name shelf.old.holds name

-- What shows why a fault came of files of points and part lists, whatever the shelf tells. Of a refusal of what a file
-- holds the reply alone says more; want of memory may come anywhere.
abbrev pub HasCause : ShelfSide → Fault → Type 0
HasCause shelf Usage = ⊥
HasCause shelf (ReadFault name) = IsUnread shelf name
HasCause shelf (TooLong name) = IsPastLimit FILE_LIMIT shelf name
HasCause shelf WriteFault = ⊥
HasCause shelf fault = ⊤

-- where the fault is that a file is too long, this holds of its name
abbrev pub IfTooLong : (List ℕ → Type 0) → Fault → Type 0
IfTooLong P (TooLong name) = P name
IfTooLong P fault = ⊤

-- the input may name the file: without a part list it is one of the files; a part list may name any
abbrev pub MayName : Input → List ℕ → Type 0
MayName (inputs.Manifest list) name = ⊤
MayName (inputs.Files names) name = Contains names name
