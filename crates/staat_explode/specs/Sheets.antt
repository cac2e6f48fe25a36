-- Texts up to a limit.
use Rattle.std.specs.Prelude.{◌≡◌, ◌<◌, ◌≤◌, ◌++◌, ℕ, List, length, Result, Ok, Err}
use Rattle.staat_limits.specs.declared.limits.TheConstants.{TEXT_LIMIT}
use Rattle.staat_model.specs.declared.refusal.TextRefusal.{TextRefusal}
use Rattle.staat_model.specs.declared.refusal.TextRefusal.TheVariants.{TextTooLong, OutOfMemory}
use Rattle.staat_explode.specs.declared.sheet.Sheet.{Sheet}

-- the length of the text is kept, and the text itself where it is within the limit
pub record Keeps (sheet : Sheet) (text : List ℕ) : Type 0 where
  pub count : sheet.length ≡ length text
  pub bytes : length text ≤ TEXT_LIMIT → sheet.bytes.items ≡ text

-- one text was written behind another
abbrev pub AddsText : Sheet → Sheet → List ℕ → Type 0
AddsText before after more = (text : List ℕ) → Keeps before text → Keeps after (text ++ more)

-- the text where it is within the limit, and else its length; or memory ran out
abbrev pub Written : List ℕ → Result (List ℕ) TextRefusal → Type 0
Written text (Ok bytes) = (bytes ≡ text) × (length text ≤ TEXT_LIMIT)
Written text (Err (TextTooLong n)) = (n ≡ length text) × (TEXT_LIMIT < length text)
Written text (Err OutOfMemory) = Unit {0}
