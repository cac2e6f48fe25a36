-- What a reader in pieces has read, and what it answers.
use Rattle.std.specs.Prelude.{◌≡◌, ℕ, List, true, Result}
use Rattle.staat_cert.specs.declared.cert_refusal.CertRefusal.{CertRefusal}
use Rattle.staat_cert.specs.TextLines.{IsAnswerSoFar, IsAnswerTo, TookIn}
use Rattle.staat_short.specs.declared.short.ShortCertificate.{ShortCertificate}
use Rattle.staat_short.specs.declared.reader.ShortReader.{ShortReader}
use Rattle.staat_short.specs.ShortTexts.{IsShortTextOf}
use Rattle.staat_short.specs.ShortViews.{HasTakenShort}

-- there was no memory at some feed
abbrev pub IsFailing : ShortReader → Type 0
IsFailing r = r.lines.is_out ≡ true

-- this text was fed: it was read, or it is too long, or there was no memory
abbrev pub WasFedShort : ShortReader → List ℕ → Type 0
WasFedShort r text = TookIn IsShortTextOf HasTakenShort r.lines text

-- what `feed` answers where the text is now this one
abbrev pub IsShortFeedAnswer : List ℕ → Result (Unit {0}) CertRefusal → Type 0
IsShortFeedAnswer = IsAnswerSoFar IsShortTextOf

-- what reading a whole text answers
abbrev pub IsShortReadAnswer : List ℕ → Result ShortCertificate CertRefusal → Type 0
IsShortReadAnswer = IsAnswerTo IsShortTextOf
