-- The line that bytes are, and what a line makes of a front.
use Rattle.std.specs.Prelude.{ℕ, Bool, List}
use Rattle.staat_cert.specs.TextLines.{IsTextOfLine, MakesState}
use Rattle.staat_short.specs.declared.line.ShortLine.{ShortLine}
use Rattle.staat_short.specs.declared.line.ShortLine.TheVariants as line
use Rattle.staat_short.specs.ShortLines.{IsShortLine, short_line_text}
use Rattle.staat_short.specs.Fronts.{Front, front_after}

-- the bytes are the text of the line
abbrev pub IsShortLineText : List ℕ → ShortLine → Type 0
IsShortLineText = IsTextOfLine short_line_text IsShortLine

-- the line belongs to no hold and closes a group
abbrev pub EndsGroup : ShortLine → Type 0
EndsGroup (line.Leaf p) = Unit {0}
EndsGroup (line.Split d) = Unit {0}
EndsGroup line.Group = Unit {0}
EndsGroup line.End = Unit {0}
EndsGroup l = ⊥

-- whether the line was taken, and what it made of the front
abbrev pub TakesShortLine : Front → ShortLine → Bool → Front → Type 0
TakesShortLine s l b t = MakesState (front_after s l) b t
