-- Where no file is named twice, by the words and by the part list that was read.
use Rattle.std.specs.Prelude.{◌≡◌, ℕ, List, [], ◌∷◌, ◌++◌, Contains, Option, Some, None, Ok, ⊤}
use Rattle.staat_edge.specs.Readings.{FileReading, whole_reading}
use Rattle.staat_manifest.specs.declared.listing.ListedPart.{ListedPart}
use Rattle.staat_manifest.specs.Rules.{part_list_within}
use Rattle.staat_words.specs.declared.request.Input.{Input}
use Rattle.staat_words.specs.declared.request.Input.TheVariants as input
use Rattle.staat_words.specs.declared.request.Request.{Request}
use Rattle.staat_words.specs.declared.request.Request.TheVariants as request
use Rattle.staat_input.specs.declared.limits.Limits.{Limits}
use Rattle.staat_input.specs.declared.limits.TheConstants.Limits.{ASSEMBLY, PRODUCT}
use Rattle.staat_input.specs.Opened.{piece_files}

-- no name stands twice
abbrev pub AreDifferent : List (List ℕ) → Type 0
AreDifferent [] = ⊤
AreDifferent (name ∷ names) = (Contains names name → ⊥) × AreDifferent names

-- No name stands twice among those of the input and these; behind a part list, whatever it lists by the bytes that were
-- read of it.
abbrev pub IsInputOnce : Limits → Input → List (List ℕ) → List FileReading → Type 0
IsInputOnce limits (input.Files names) more given = AreDifferent (names ++ more)
IsInputOnce limits (input.Manifest name) more given = (bytes : List ℕ) (parts : List ListedPart) →
    Contains given (whole_reading name bytes) → part_list_within limits.parts limits.pieces bytes ≡ Ok parts →
    AreDifferent (name ∷ piece_files parts ++ more)

-- the request names no file twice
abbrev pub IsNamedOnce : Request → List FileReading → Type 0
IsNamedOnce (request.Pair r) given = AreDifferent (r.first ∷ r.second ∷ [])
IsNamedOnce (request.Look asked) given = IsInputOnce ASSEMBLY asked.input [] given
IsNamedOnce (request.Graph r) given = IsInputOnce ASSEMBLY r.asked.input [] given
IsNamedOnce (request.Plan r) given = IsInputOnce ASSEMBLY r.asked.input [] given
IsNamedOnce (request.Check r) given = IsInputOnce ASSEMBLY r.asked.input (r.certificate ∷ []) given
IsNamedOnce (request.Cells r) given = IsInputOnce ASSEMBLY r.asked.input [] given
IsNamedOnce (request.Drill product) given = ⊤
IsNamedOnce (request.Explode r) given = IsInputOnce ASSEMBLY r.asked.input [] given
IsNamedOnce (request.Linear r) given = IsInputOnce ASSEMBLY r.asked.input [] given
IsNamedOnce (request.Local r) given = IsInputOnce ASSEMBLY r.asked.input [] given
IsNamedOnce (request.Decide r) given = IsInputOnce PRODUCT r.asked.input [] given
IsNamedOnce (request.Confirm r) given = IsInputOnce PRODUCT r.asked.input (r.certificate ∷ []) given
IsNamedOnce (request.Blocks r) given = IsInputOnce PRODUCT r.asked.input [] given

-- the same of words; those that make no request name no file
abbrev pub AreNamedOnce : Option Request → List FileReading → Type 0
AreNamedOnce None given = ⊤
AreNamedOnce (Some asked) given = IsNamedOnce asked given
