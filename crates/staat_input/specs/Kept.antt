-- Files that hold what an input names as other files do.
use Rattle.std.specs.Prelude.{◌≡◌, ℕ, List, Contains, Some, Ok}
use Rattle.staat_edge.specs.Files.{bytes_of}
use Rattle.staat_manifest.specs.declared.listing.ListedPart.{ListedPart}
use Rattle.staat_words.specs.declared.request.Input.{Input}
use Rattle.staat_words.specs.declared.request.Input.TheVariants as inputs
use Rattle.staat_input.specs.declared.limits.Limits.{Limits}
use Rattle.staat_input.specs.Work.{Files}
use Rattle.staat_input.specs.Inputs.{IsListingOfWithin}

-- Within these limits the input names this file: it is the part list, or a part that is listed has a piece in it.
pub data IsNamedBy (limits : Limits) (files : Files) (input : Input) (name : List ℕ) : Type 0 where
  names_list : input ≡ inputs.Manifest name → IsNamedBy limits files input name
  names_piece : (named : List ListedPart) (part : ListedPart) → IsListingOfWithin limits files input (Ok named) →
      Contains named part → Contains part.pieces name → IsNamedBy limits files input name

-- the others hold each file that the input names, with the same bytes
abbrev pub KeepsNamed : Limits → Files → Files → Input → Type 0
KeepsNamed limits files others input = (name bytes : List ℕ) → IsNamedBy limits files input name →
    bytes_of name files ≡ Some bytes → bytes_of name others ≡ Some bytes
