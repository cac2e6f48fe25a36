-- What a reader of certificates was fed of a file.
use Rattle.std.specs.Prelude.{◌≤◌, ℕ, List, length}
use Rattle.staat_limits.specs.declared.limits.TheConstants.{TEXT_LIMIT}
use Rattle.staat_edge.specs.Fitting.{IsWhole}
use Rattle.staat_edge.specs.Told.{ShelfTold}

-- this text was fed, which is not too long; `WasFed` says of a text whether it was fed
pub record IsFed (WasFed : List ℕ → Type 0) (text : List ℕ) : Type 0 where
  pub fed : WasFed text
  pub within : length text ≤ TEXT_LIMIT

-- the whole file was fed
pub record IsFedFile (told : ShelfTold) (name : List ℕ) (WasFed : List ℕ → Type 0) : Type 0 where
  pub text : List ℕ
  pub whole_is : IsWhole told name text
  pub fed : IsFed WasFed text
