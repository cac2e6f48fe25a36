-- The words of a file that refusals name.
use Rattle.std.specs.Prelude.{◌≡◌, ℕ, List}
use Rattle.staat_off.specs.declared.refusal.OffRefusal.{OffRefusal}
use Rattle.staat_off.specs.declared.refusal.OffRefusal.TheVariants.{BadCount, BadIndex, BadNumber, NoHeader, NotWhole}
use Rattle.staat_off.specs.declared.refusal.OffRefusal.TheVariants.{OutOfMemory, ShortFile, TooBig, Trailing}
use Rattle.staat_off.specs.Words.{IsWord, Word}

-- a word of the file begins at the offset
pub record BeginsWord (file : List ℕ) (at : ℕ) : Type 0 where
  pub found : Word
  pub word : IsWord file found
  pub begins : found.at ≡ at

-- the number with a refusal is the offset of a word; and no reading is want of memory
abbrev pub NamesWord : List ℕ → OffRefusal → Type 0
NamesWord file NoHeader = Unit {0}
NamesWord file ShortFile = Unit {0}
NamesWord file (BadNumber at) = BeginsWord file at
NamesWord file (NotWhole at) = BeginsWord file at
NamesWord file (TooBig at) = BeginsWord file at
NamesWord file (BadCount at) = BeginsWord file at
NamesWord file (BadIndex at) = BeginsWord file at
NamesWord file (Trailing at) = BeginsWord file at
NamesWord file OutOfMemory = ⊥
