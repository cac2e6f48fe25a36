-- The parts that an input names, read and judged in their order.
use Rattle.std.specs.Prelude.{◌≡◌, ℕ, List, [], ◌∷◌, map, Ok, Err}
use Rattle.staat_vec.specs.declared.vector.V3.{V3}
use Rattle.staat_model.specs.declared.assembly.Part.{Part}
use Rattle.staat_vec.specs.Vectors.{origin}
use Rattle.staat_manifest.specs.declared.listing.ListedPart.{ListedPart}
use Rattle.staat_manifest.specs.declared.refusal.ManifestRefusal.{ManifestRefusal}
use Rattle.staat_manifest.specs.Rules.{part_list_within}
use Rattle.staat_words.specs.declared.request.Asked.{Asked}
use Rattle.staat_words.specs.declared.request.Input.{Input}
use Rattle.staat_words.specs.declared.request.Input.TheVariants as input
use Rattle.staat_input.specs.declared.limits.Limits.{Limits}
use Rattle.staat_input.specs.declared.limits.TheConstants.Limits.{ASSEMBLY}
use Rattle.staat_input.specs.Work.{Files, Found, IsTaken, Then, Each}
use Rattle.staat_input.specs.Refusals.{manifest_fault}
use Rattle.staat_input.specs.Moved.{IsMovedPieceOf}

-- the part of one piece that a file is by itself, with the file's name
abbrev pub alone : List ℕ → ListedPart
alone name = record { name = name; pieces = name ∷ []; at = origin }

-- What the bytes of a part list say that names no more than so much: it breaks a rule, or names these parts.
pub data SaysListingWithin (limits : Limits) (name bytes : List ℕ) : Found (List ListedPart) → Type 0 where
  no_listing : {found : Found (List ListedPart)} (refusal : ManifestRefusal) →
      part_list_within limits.parts limits.pieces bytes ≡ Err refusal →
      found ≡ Err (manifest_fault name refusal) → SaysListingWithin limits name bytes found
  listing : {found : Found (List ListedPart)} (parts : List ListedPart) →
      part_list_within limits.parts limits.pieces bytes ≡ Ok parts →
      found ≡ Ok parts → SaysListingWithin limits name bytes found

-- What the step finds that learns the names. Without a part list each file is a part of its own.
abbrev pub IsListingOfWithin : Limits → Files → Input → Found (List ListedPart) → Type 0
IsListingOfWithin limits files (input.Manifest name) found =
    IsTaken files name (SaysListingWithin limits name) found
IsListingOfWithin limits files (input.Files names) found = found ≡ Ok (map alone names)

-- the same for an assembly
abbrev pub IsListingOf : Files → Input → Found (List ListedPart) → Type 0
IsListingOf files source found = IsListingOfWithin ASSEMBLY files source found

-- the part of that name with these pieces
abbrev pub part_of : List ℕ → List (List V3) → Part
part_of name pieces = record { name = name; pieces = pieces }

-- what the step finds that reads the pieces of a part and moves them by its vector
abbrev pub IsPartOf : Files → ℕ → ListedPart → Found Part → Type 0
IsPartOf files digits named found =
    Then (Each (IsMovedPieceOf files digits named.at) named.pieces)
    (λ pieces found. found ≡ Ok (part_of named.name pieces)) found

-- What the step finds that reads the whole input: the names first, then each part's pieces. A file that is named twice
-- is read twice.
abbrev pub IsInputOfWithin : Limits → Files → Asked → Found (List Part) → Type 0
IsInputOfWithin limits files asked found =
    Then (IsListingOfWithin limits files asked.input) (Each (IsPartOf files asked.digits)) found

-- the same for an assembly
abbrev pub IsInputOf : Files → Asked → Found (List Part) → Type 0
IsInputOf files asked found = IsInputOfWithin ASSEMBLY files asked found
