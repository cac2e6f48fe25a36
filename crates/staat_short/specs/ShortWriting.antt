-- What was written of a text.
use Rattle.std.specs.Prelude.{ℕ, ◌≤◌, Result, Ok, Err, List, length, flat_map}
use Rattle.staat_limits.specs.declared.limits.TheConstants.{TEXT_LIMIT}
use Rattle.staat_model.specs.declared.refusal.TextRefusal.{TextRefusal}
use Rattle.staat_model.specs.declared.refusal.TextRefusal.TheVariants.{TextTooLong, OutOfMemory}
use Rattle.staat_cert.specs.declared.writer.LineWriter.{LineWriter}
use Rattle.staat_cert.specs.Writing.{AddsBytes, IsTooLong}
use Rattle.staat_short.specs.declared.line.ShortLine.{ShortLine}
use Rattle.staat_short.specs.declared.short.ShortCertificate.{ShortCertificate}
use Rattle.staat_short.specs.ShortLines.{short_line_text}
use Rattle.staat_short.specs.ShortTexts.{IsShortTextOf, short_text}

-- these lines were added
abbrev pub AddsShortLines : LineWriter → LineWriter → List ShortLine → Type 0
AddsShortLines old new ls = AddsBytes old new (flat_map short_line_text ls)

-- what writing a certificate answers. No memory holds a certificate whose text's length 128 bits do not hold
abbrev pub IsShortTextAnswer : ShortCertificate → Result (List ℕ) TextRefusal → Type 0
IsShortTextAnswer c (Ok bytes) = IsShortTextOf bytes c × (length bytes ≤ TEXT_LIMIT)
IsShortTextAnswer c (Err (TextTooLong n)) = IsTooLong (short_text c) n
IsShortTextAnswer c (Err OutOfMemory) = Unit {0}
