-- What shows why a fault came that stops `check`.
use Rattle.std.specs.Prelude.{◌≡◌, ◌⊎◌, ℕ, List, Err}
use Rattle.staat_limits.specs.declared.limits.TheConstants.{TEXT_LIMIT, FILE_LIMIT}
use Rattle.staat_words.specs.declared.request.Asked.{Asked}
use Rattle.staat_words.specs.declared.request.CheckRequest.{CheckRequest}
use Rattle.staat_fault.specs.declared.fault.Fault.{Fault}
use Rattle.staat_fault.specs.declared.fault.Fault.TheVariants.{TooLong}
use Rattle.staat_edge.specs.Fitting.{Fit}
use Rattle.staat_input.specs.Work.{Files}
use Rattle.staat_input.specs.Assembling.{IsSoundOf, IsSoundProductOf}
use Rattle.staat_input.specs.Causes.{ShelfSide, IsPastLimit, HasCause, MayName}

-- what shows why a fault came of the certificate's file, which has a limit of its own
abbrev pub HasCertificateCause : List ℕ → ShelfSide → Fault → Type 0
HasCertificateCause certificate shelf (TooLong name) = (name ≡ certificate) × IsPastLimit TEXT_LIMIT shelf name
HasCertificateCause certificate shelf fault = HasCause shelf fault

-- a file that the input may name is past the limit; and in all files that fit, the input is refused for it
pub record IsLongInput (asked : Asked) (shelf : ShelfSide) (name : List ℕ) : Type 0 where
  pub past : IsPastLimit FILE_LIMIT shelf name
  pub named : MayName asked.input name
  pub refused : (files : Files) → Fit shelf.new files → IsSoundOf files asked (Err (TooLong name))

-- What shows why a fault of `check` came. The certificate's name may be one of the input too: what is too long is the
-- file of the input by the one limit, or that of the certificate by the other.
abbrev pub HasCheckCause : CheckRequest → ShelfSide → Fault → Type 0
HasCheckCause request shelf (TooLong name) =
    IsLongInput request.asked shelf name ⊎ ((name ≡ request.certificate) × IsPastLimit TEXT_LIMIT shelf name)
HasCheckCause request shelf fault = HasCause shelf fault

-- the same of the input of `confirm`
pub record IsLongProductInput (asked : Asked) (shelf : ShelfSide) (name : List ℕ) : Type 0 where
  pub past : IsPastLimit FILE_LIMIT shelf name
  pub named : MayName asked.input name
  pub refused : (files : Files) → Fit shelf.new files → IsSoundProductOf files asked (Err (TooLong name))

-- what shows why a fault of `confirm` came
abbrev pub HasConfirmCause : CheckRequest → ShelfSide → Fault → Type 0
HasConfirmCause request shelf (TooLong name) =
    IsLongProductInput request.asked shelf name
    ⊎ ((name ≡ request.certificate) × IsPastLimit TEXT_LIMIT shelf name)
HasConfirmCause request shelf fault = HasCause shelf fault
