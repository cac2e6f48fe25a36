-- Readers: each gives a value and what is left of the file behind it, or a refusal.
use Rattle.std.specs.Prelude.{ℕ, zero, suc, List, [], ◌∷◌, Result, Ok, Err}
use Rattle.staat_off.specs.declared.refusal.OffRefusal.{OffRefusal}
use Rattle.staat_off.specs.Scan.{Rest}

-- a reader of a value
abbrev pub Reader : Type 0 → Type 0
Reader A = Rest → Result (A × Rest) OffRefusal

-- reading goes on behind what was read
abbrev pub resumed : {A B : Type 0} →
    Result (A × Rest) OffRefusal → (A → Reader B) → Result (B × Rest) OffRefusal
resumed (Ok read) next = next read.0 read.1
resumed (Err refusal) next = Err refusal

-- one reader after another
infixl 10 ◌>>=◌
abbrev pub ◌>>=◌ : {A B : Type 0} → Reader A → (A → Reader B) → Reader B
(reader >>= next) rest = resumed (reader rest) next

-- nothing more is read
abbrev pub return : {A : Type 0} → A → Reader A
return x rest = Ok (x, rest)

-- the refusal
abbrev pub refuse : {A : Type 0} → OffRefusal → Reader A
refuse refusal rest = Err refusal

-- what is decided with no more bytes
abbrev pub decided : {A : Type 0} → Result A OffRefusal → Reader A
decided (Ok x) = return x
decided (Err refusal) = refuse refusal

-- what is read, without what is left
abbrev pub value_in : {A : Type 0} → Result (A × Rest) OffRefusal → Result A OffRefusal
value_in (Ok read) = Ok read.0
value_in (Err refusal) = Err refusal

-- so many in a row
unfoldable pub many : {A : Type 0} → ℕ → Reader A → Reader (List A)
many zero reader = return []
many (suc n) reader = do
  first ← reader
  others ← many n reader
  return (first ∷ others)
