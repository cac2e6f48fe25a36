-- What has been read of a text line by line, whatever its lines say: `spells` tells what a whole text says, and `taken`
-- which lines were taken.
use Rattle.std.specs.Prelude.{◌≡◌, ◌≢◌, ◌⊎◌, ℕ, ◌+◌, ◌<◌, ◌≤◌, List, []}
use Rattle.std.specs.Prelude.{◌==◌, ◌∷◌, ◌++◌, Bool, true, false, not}
use Rattle.std.specs.Prelude.{length, flat_map, All, Option, Some, None, Result, Ok, Err, option_and_then}
use Rattle.staat_limits.specs.declared.limits.TheConstants.{LINE_LIMIT, TEXT_LIMIT}
use Rattle.staat_model.specs.Texts.{HasNoFeed, IsLine, IsLongLine, joined}
use Rattle.staat_cert.specs.declared.cert_refusal.CertRefusal.{CertRefusal}
use Rattle.staat_cert.specs.declared.cert_refusal.CertRefusal.TheVariants.{BadLine, ShortCert, TooLong, OutOfMemory}
use Rattle.staat_cert.specs.declared.progress.Progress.{Progress}
use Rattle.staat_cert.specs.declared.line_reader.LineReader.{LineReader}

-- ---- texts and their first bad line

-- some whole text begins with the bytes
pub record BeginsWhole {C : Type 0} (spells : List ℕ → C → Type 0) (bytes : List ℕ) : Type 0 where
  pub whole : C
  pub more : List ℕ
  pub is : spells (bytes ++ more) whole

-- the line is whole and not too long
pub record IsKeptLine (line : List ℕ) : Type 0 where
  pub whole : IsLine line
  pub short : length line ≤ LINE_LIMIT

-- the bytes are such lines
pub record HasKeptLines (bytes : List ℕ) : Type 0 where
  pub lines : List (List ℕ)
  pub each : All IsKeptLine lines
  pub is : bytes ≡ joined lines

-- whole texts are lines, and none goes on from another
pub record AreWholeTexts {C : Type 0} (spells : List ℕ → C → Type 0) : Type 0 where
  pub lines : (text : List ℕ) (c : C) → spells text c → HasKeptLines text
  pub apart : (text more : List ℕ) (c d : C) → spells text c → spells (text ++ more) d → more ≡ []

-- `ahead` begins with a whole line with which no whole text goes on after `before`
pub record IsWrongBehind {C : Type 0} (spells : List ℕ → C → Type 0) (before ahead : List ℕ) : Type 0 where
  pub line : List ℕ
  pub rest : List ℕ
  pub is : ahead ≡ line ++ rest
  pub whole : IsLine line
  pub wrong : BeginsWhole spells (before ++ line) → ⊥

-- `before` is a whole text, and bytes follow
pub record IsExcessBehind {C : Type 0} (spells : List ℕ → C → Type 0) (before ahead : List ℕ) : Type 0 where
  pub certificate : C
  pub whole : spells before certificate
  pub some : ahead ≢ []

-- the line that follows the text `before`, with which `ahead` begins, is bad
abbrev pub IsBadBehind : {C : Type 0} → (List ℕ → C → Type 0) → List ℕ → List ℕ → Type 0
IsBadBehind spells before ahead =
    IsWrongBehind spells before ahead ⊎ (IsLongLine ahead ⊎ IsExcessBehind spells before ahead)

-- line number k, counted from 1, is the first bad one
pub record IsFirstBadOf {C : Type 0} (spells : List ℕ → C → Type 0) (bytes : List ℕ) (k : ℕ) : Type 0 where
  pub before : List (List ℕ)
  pub ahead : List ℕ
  pub number : k ≡ length before + 1
  pub is : bytes ≡ joined before ++ ahead
  pub lines : All IsLine before
  pub begins : BeginsWhole spells (joined before)
  pub bad : IsBadBehind spells (joined before) ahead

-- the bytes are no whole text and have no bad line
pub record IsCutShort {C : Type 0} (spells : List ℕ → C → Type 0) (bytes : List ℕ) : Type 0 where
  pub no_text : (c : C) → spells bytes c → ⊥
  pub no_bad_line : (k : ℕ) → IsFirstBadOf spells bytes k → ⊥

-- ---- lines, each of which makes of a state the next one, or nothing where it can't stand there

-- the bytes are the text of the line, whose numbers are within their bounds
pub record IsTextOfLine {L : Type 0} (line_text : L → List ℕ) (InBounds : L → Type 0) (bytes : List ℕ) (l : L)
    : Type 0 where
  pub text : bytes ≡ line_text l
  pub bounds : InBounds l

-- the state after the lines
abbrev pub run_by : {S L : Type 0} → (S → L → Option S) → Option S → List L → Option S
run_by step s [] = s
run_by step s (l ∷ ls) = run_by step (option_and_then (λ t. step t l) s) ls

-- whether the line was taken, and what it made of the state
abbrev pub MakesState : {S : Type 0} → Option S → Bool → S → Type 0
MakesState o true t = o ≡ Some t
MakesState o false t = o ≡ None

-- the bytes are lines that lead from one state to another
pub record LeadsTo {S L : Type 0} (line_text : L → List ℕ) (InBounds : L → Type 0) (step : S → L → Option S)
    (start now : S) (bytes : List ℕ) : Type 0 where
  pub lines : List L
  pub is : bytes ≡ flat_map line_text lines
  pub bounds : All InBounds lines
  pub runs : run_by step (Some start) lines ≡ Some now

-- ---- a stage

-- the line was taken after others, and some whole text goes on with it; or none does
abbrev pub TakesLine : {C : Type 0} → (List ℕ → C → Type 0) → (old new : List ℕ → Type 0)
    → List ℕ → Bool → Type 0
TakesLine spells old new line true =
    (text : List ℕ) → old text → new (text ++ line) × BeginsWhole spells (text ++ line)
TakesLine spells old new line false = (text : List ℕ) → old text → BeginsWhole spells (text ++ line) → ⊥

-- whether the text is whole
abbrev pub IsToldWhole : {C : Type 0} → (List ℕ → C → Type 0) → List ℕ → Bool → Type 0
IsToldWhole {C} spells text true = (c : C) × spells text c
IsToldWhole {C} spells text false = (c : C) → spells text c → ⊥

-- what the text says, where it is whole
abbrev pub TellsWhole : {C : Type 0} → (List ℕ → C → Type 0) → List ℕ → Option C → Type 0
TellsWhole {C} spells text None = (c : C) → spells text c → ⊥
TellsWhole {C} spells text (Some c) = spells text c

-- ---- what has been read

-- the text is so many lines, which were taken, and bytes without a line feed
pub record IsReadTo {C : Type 0} (spells : List ℕ → C → Type 0) (taken : List ℕ → Type 0) (rest : List ℕ)
    (count : ℕ) (text : List ℕ) : Type 0 where
  pub lines : List (List ℕ)
  pub is : text ≡ joined lines ++ rest
  pub number : count ≡ length lines
  pub each : All IsKeptLine lines
  pub took : taken (joined lines)
  pub begins : BeginsWhole spells (joined lines)
  pub no_feed : HasNoFeed rest
  pub short : length rest < LINE_LIMIT
  pub closed : (c : C) → spells (joined lines) c → rest ≡ []

-- so many lines were taken, and the rest has come of the next line; or the next line is bad
pub record Stands {C : Type 0} (spells : List ℕ → C → Type 0) (taken : List ℕ → Type 0) (rest : List ℕ)
    (count : ℕ) (is_bad : Bool) (text : List ℕ) : Type 0 where
  pub good : is_bad ≡ false → IsReadTo spells taken rest count text
  pub wrong : is_bad ≡ true → IsFirstBadOf spells text (count + 1)

-- the text was read
abbrev pub HasRead : {S C : Type 0} → (List ℕ → C → Type 0) → (S → List ℕ → Type 0) → Progress S
    → List ℕ → Type 0
HasRead spells taken r text = Stands spells (taken r.stage) r.line.items r.count r.is_bad text

-- each text that was read is read on by these bytes
abbrev pub ReadsOn : {S C : Type 0} → (List ℕ → C → Type 0) → (S → List ℕ → Type 0)
    → (old new : Progress S) → List ℕ → Type 0
ReadsOn spells taken old new more = (text : List ℕ) → HasRead spells taken old text
    → HasRead spells taken new (text ++ more)

-- no line feed
abbrev pub is_inner : ℕ → Bool
is_inner b = not (b == 10)

-- nothing, or a line feed in front
abbrev pub IsAtFeed : List ℕ → Type 0
IsAtFeed [] = Unit {0}
IsAtFeed (b ∷ bytes) = b ≡ 10

-- the bytes before the first line feed, and what follows
pub record IsRun (bytes run rest : List ℕ) : Type 0 where
  pub is : bytes ≡ run ++ rest
  pub inner : HasNoFeed run
  pub stops : IsAtFeed rest

-- ---- a reader in pieces

-- this text was fed: it was read, or it is too long, or there was no memory
pub record TookIn {S C : Type 0} (spells : List ℕ → C → Type 0) (taken : S → List ℕ → Type 0)
    (r : LineReader S) (text : List ℕ) : Type 0 where
  pub long : r.is_out ≡ false → r.is_long ≡ true → TEXT_LIMIT < length text
  pub total : r.is_out ≡ false → r.is_long ≡ false → r.total ≡ length text
  pub read : r.is_out ≡ false → r.is_long ≡ false → HasRead spells taken r.progress text
  pub texts : AreWholeTexts spells

-- there was no memory
abbrev pub is_no_memory : CertRefusal → Bool
is_no_memory OutOfMemory = true
is_no_memory e = false

abbrev pub lacks_memory : {C : Type 0} → Result C CertRefusal → Bool
lacks_memory (Ok x) = false
lacks_memory (Err e) = is_no_memory e

-- what `feed` answers where the text is now this one
abbrev pub IsAnswerSoFar : {C : Type 0} → (List ℕ → C → Type 0) → List ℕ → Result (Unit {0}) CertRefusal
    → Type 0
IsAnswerSoFar spells text (Ok x) = (length text ≤ TEXT_LIMIT) × ((k : ℕ) → IsFirstBadOf spells text k → ⊥)
IsAnswerSoFar spells text (Err (BadLine k)) = (length text ≤ TEXT_LIMIT) × IsFirstBadOf spells text k
IsAnswerSoFar spells text (Err ShortCert) = ⊥
IsAnswerSoFar spells text (Err TooLong) = TEXT_LIMIT < length text
IsAnswerSoFar spells text (Err OutOfMemory) = Unit {0}

-- what reading a whole text answers
abbrev pub IsAnswerTo : {C : Type 0} → (List ℕ → C → Type 0) → List ℕ → Result C CertRefusal → Type 0
IsAnswerTo spells text (Ok c) = (length text ≤ TEXT_LIMIT) × spells text c
IsAnswerTo spells text (Err (BadLine k)) = (length text ≤ TEXT_LIMIT) × IsFirstBadOf spells text k
IsAnswerTo spells text (Err ShortCert) = (length text ≤ TEXT_LIMIT) × IsCutShort spells text
IsAnswerTo spells text (Err TooLong) = TEXT_LIMIT < length text
IsAnswerTo spells text (Err OutOfMemory) = Unit {0}
