-- Which files the work on an input opens, in which order.
use Rattle.std.specs.Prelude.{◌≡◌, ◌⊎◌, ◌++◌, ℕ, Bool, false, List, [], ◌∷◌, map, flat_map, Ok, Err}
use Rattle.staat_edge.specs.Opening.{Opens, OpensFiles, OpensSome}
use Rattle.staat_edge.specs.Readings.{whole_reading}
use Rattle.staat_edge.specs.Told.{ShelfTold}
use Rattle.staat_manifest.specs.declared.listing.ListedPart.{ListedPart}
use Rattle.staat_manifest.specs.Rules.{part_list_within}
use Rattle.staat_words.specs.declared.request.Input.{Input}
use Rattle.staat_words.specs.declared.request.Input.TheVariants as input
use Rattle.staat_input.specs.declared.limits.Limits.{Limits}
use Rattle.staat_input.specs.Inputs.{alone}
use Rattle.staat_input.specs.Work.{Found}

-- the files of the pieces of these parts, in their order
abbrev pub piece_files : List ListedPart → List (List ℕ)
piece_files parts = flat_map (λ part. part.pieces) parts

-- The part list was read to its end; after it the files of the pieces that its bytes list are opened, and then these.
pub record OpensListed (limits : Limits) (ends : Bool) (name : List ℕ) (more : List (List ℕ))
    (before now : ShelfTold) : Type 0 where
  pub bytes : List ℕ
  pub parts : List ListedPart
  pub listed : part_list_within limits.parts limits.pieces bytes ≡ Ok parts
  pub opens : Opens ends (piece_files parts ++ more) (whole_reading name bytes ∷ before.given) now.given

-- Each file that the input names is opened as often as it is named, in the order of the work, and then these are: the
-- part list first, if there is one. Where the work came to no end, some of them were, from the front.
abbrev pub OpensInput : Limits → Bool → Input → List (List ℕ) → ShelfTold → ShelfTold → Type 0
OpensInput limits ends (input.Files names) more before now = OpensFiles ends (names ++ more) before now
OpensInput limits ends (input.Manifest name) more before now =
    ((ends ≡ false) × OpensSome (name ∷ []) before.given now.given)
    ⊎ OpensListed limits ends name more before now

-- the files opened are a beginning of those that the input names and then these
abbrev pub OpensSomeOf : Limits → Input → List (List ℕ) → ShelfTold → ShelfTold → Type 0
OpensSomeOf limits source more before now = OpensInput limits false source more before now

-- the part list was read to its end, and its bytes list these parts
pub record ReadsList (limits : Limits) (name : List ℕ) (parts : List ListedPart)
    (before now : ShelfTold) : Type 0 where
  pub bytes : List ℕ
  pub listed : part_list_within limits.parts limits.pieces bytes ≡ Ok parts
  pub gave : now.given ≡ whole_reading name bytes ∷ before.given

-- the names of these parts were read; without a part list nothing was, and each file is a part of its own
abbrev pub ReadsNames : Limits → Input → List ListedPart → ShelfTold → ShelfTold → Type 0
ReadsNames limits (input.Files names) parts before now = (now.given ≡ before.given) × (parts ≡ map alone names)
ReadsNames limits (input.Manifest name) parts before now = ReadsList limits name parts before now

-- the same where there is an answer; where there is a fault, some of the input's files were opened
abbrev pub OpensNames : Limits → Input → ShelfTold → ShelfTold → Found (List ListedPart) → Type 0
OpensNames limits source before now (Ok parts) = ReadsNames limits source parts before now
OpensNames limits source before now (Err fault) = OpensSomeOf limits source [] before now
