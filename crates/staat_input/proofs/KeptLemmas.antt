-- What a step gives over some files it gives over others that hold what the input names as they do.
use Rattle.std.proofs.Common.{◌≡◌, ℕ, List, [], ◌∷◌, Contains, Some, Ok, refl, inl, inr}
use Rattle.staat_vec.specs.declared.vector.V3.{V3}
use Rattle.staat_vec.proofs.Unique.{Contains-front, Contains-later}
use Rattle.staat_model.specs.declared.assembly.Part.{Part}
use Rattle.staat_edge.specs.Files.{bytes_of}
use Rattle.staat_manifest.specs.declared.listing.ListedPart.{ListedPart}
use Rattle.staat_words.specs.declared.request.Asked.{Asked}
use Rattle.staat_words.specs.declared.request.Input.{Input}
use Rattle.staat_words.specs.declared.request.Input.TheVariants as inputs
use Rattle.staat_limits.specs.declared.limits.TheConstants.{FILE_LIMIT}
use Rattle.staat_input.specs.declared.limits.Limits.{Limits}
use Rattle.staat_input.specs.declared.limits.TheConstants.Limits.{ASSEMBLY, PRODUCT}
use Rattle.staat_input.specs.Work.{Files, Found, Each, IsTakenWithin, to_read, too_long, taken}
use Rattle.staat_input.specs.Pieces.{SaysPiece}
use Rattle.staat_input.specs.Moved.{IsMovedPieceOf}
use Rattle.staat_input.specs.Inputs.{IsListingOfWithin, IsPartOf, IsInputOfWithin, SaysListingWithin}
use Rattle.staat_input.specs.Assembling.{IsSoundOf, IsSoundProductOf}
use Rattle.staat_input.specs.Kept.{KeepsNamed, names_list, names_piece}

-- both hold the file with the same bytes
abbrev Keeps : Files → Files → List ℕ → Type 0
Keeps files others name = (bytes : List ℕ) → bytes_of name files ≡ Some bytes → bytes_of name others ≡ Some bytes

taken_kept : {X : Type 0} (limit : ℕ) (files others : Files) (name : List ℕ) (Says : List ℕ → Found X → Type 0) (x : X) → Keeps files others name → IsTakenWithin limit files name Says (Ok x) → IsTakenWithin limit others name Says (Ok x)
taken_kept limit files others name Says x keeps (to_read e) = absurd cc
taken_kept limit files others name Says x keeps (too_long bytes at long e) = absurd cc
taken_kept limit files others name Says x keeps (taken bytes at short says) = taken bytes (keeps bytes at) short says

pub each_kept : {X Y : Type 0} (Step Other : X → Found Y → Type 0) (xs : List X) (ys : List Y) → ((x : X) (y : Y) → Contains xs x → Step x (Ok y) → Other x (Ok y)) → Each Step xs (Ok ys) → Each Other xs (Ok ys)
each_kept Step Other [] ys keeps e = e
each_kept Step Other (x ∷ xs) ys keeps (inl (fault, at, e)) = absurd cc
each_kept Step Other (x ∷ xs) ys keeps (inr (y, first, inl (fault, at, e))) = absurd cc
each_kept Step Other (x ∷ xs) ys keeps (inr (y, first, inr (rest, later, e))) =
    inr (y, keeps x y (Contains-front x xs) first, inr (rest, each_kept Step Other xs rest (λ z w c. keeps z w (Contains-later x xs z c)) later, e))

moved_kept : (files others : Files) (digits : ℕ) (at : V3) (name : List ℕ) (points : List V3) → Keeps files others name → IsMovedPieceOf files digits at name (Ok points) → IsMovedPieceOf others digits at name (Ok points)
moved_kept files others digits at name points keeps (inl (fault, found, e)) = absurd cc
moved_kept files others digits at name points keeps (inr (read, found, moves)) = inr (read, taken_kept FILE_LIMIT files others name (SaysPiece digits name) read keeps found, moves)

part_kept : (files others : Files) (digits : ℕ) (n : ListedPart) (part : Part) → ((name : List ℕ) → Contains n.pieces name → Keeps files others name) → IsPartOf files digits n (Ok part) → IsPartOf others digits n (Ok part)
part_kept files others digits n part keeps (inl (fault, found, e)) = absurd cc
part_kept files others digits n part keeps (inr (pieces, each, e)) =
    inr (pieces, each_kept (IsMovedPieceOf files digits n.at) (IsMovedPieceOf others digits n.at) n.pieces pieces (λ name points c. moved_kept files others digits n.at name points (keeps name c)) each, e)

listing_kept : (limits : Limits) (files others : Files) (input : Input) (named : List ListedPart) → KeepsNamed limits files others input → IsListingOfWithin limits files input (Ok named) → IsListingOfWithin limits others input (Ok named)
listing_kept limits files others (inputs.Manifest name) named keeps found = taken_kept FILE_LIMIT files others name (SaysListingWithin limits name) named (λ bytes at. keeps name bytes (names_list refl) at) found
listing_kept limits files others (inputs.Files names) named keeps e = e

input_kept : (limits : Limits) (files others : Files) (asked : Asked) (parts : List Part) → KeepsNamed limits files others asked.input → IsInputOfWithin limits files asked (Ok parts) → IsInputOfWithin limits others asked (Ok parts)
input_kept limits files others asked parts keeps (inl (fault, found, e)) = absurd cc
input_kept limits files others asked parts keeps (inr (named, listed, read)) =
    inr (
      named,
      listing_kept limits files others asked.input named keeps listed,
      each_kept (IsPartOf files asked.digits) (IsPartOf others asked.digits) named parts
          (λ n part c. part_kept files others asked.digits n part (λ name there bytes at. keeps name bytes (names_piece named n listed c there) at)) read,
    )

pub sound_kept : (files others : Files) (asked : Asked) (parts : List Part) → KeepsNamed ASSEMBLY files others asked.input → IsSoundOf files asked (Ok parts) → IsSoundOf others asked (Ok parts)
sound_kept files others asked parts keeps (inl (fault, found, e)) = absurd cc
sound_kept files others asked parts keeps (inr (read, found, test)) = inr (read, input_kept ASSEMBLY files others asked read keeps found, test)

pub product_kept : (files others : Files) (asked : Asked) (parts : List Part) → KeepsNamed PRODUCT files others asked.input → IsSoundProductOf files asked (Ok parts) → IsSoundProductOf others asked (Ok parts)
product_kept files others asked parts keeps (inl (fault, found, e)) = absurd cc
product_kept files others asked parts keeps (inr (read, found, test)) = inr (read, input_kept PRODUCT files others asked read keeps found, test)
