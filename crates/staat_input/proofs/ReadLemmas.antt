-- What the step finds that reads the piece of a file.
use Rattle.std.proofs.Common.{◌≡◌, ◌∙◌, ℕ, ◌<◌, ◌≤◌, List, length, Option, Some, None, Ok, Err, refl, sym, ap, subst}
use Rattle.std.specs.Prelude.{Result, IfOk, IsErrAnd, IsSomeAnd}
use Rattle.staat_vec.specs.declared.vector.V3.{V3}
use Rattle.staat_edge.specs.Files.{bytes_of}
use Rattle.staat_edge.specs.Fitting.{Fit, IsLonger, IsWhole}
use Rattle.staat_edge.specs.Told.{ShelfTold}
use Rattle.staat_fault.specs.declared.fault.Fault.{Fault}
use Rattle.staat_fault.specs.declared.fault.Fault.TheVariants as fault
use Rattle.staat_off.specs.declared.raw.Raw.{Raw}
use Rattle.staat_off.specs.declared.refusal.OffRefusal.{OffRefusal}
use Rattle.staat_off.specs.declared.refusal.OffRefusal.TheVariants as off
use Rattle.staat_off.specs.Reading.{reading}
use Rattle.staat_off.specs.Answers.{Answers as Reads}
use Rattle.staat_mesh.specs.declared.refusal.MeshRefusal.{MeshRefusal}
use Rattle.staat_mesh.specs.declared.refusal.MeshRefusal.TheVariants as mesh_refusal
use Rattle.staat_mesh.specs.Polygons.{mesh}
use Rattle.staat_mesh.specs.Judging.{AnswersMesh}
use Rattle.staat_manifest.specs.declared.refusal.ManifestRefusal.{ManifestRefusal}
use Rattle.staat_manifest.specs.declared.refusal.ManifestRefusal.TheVariants as manifest
use Rattle.staat_manifest.specs.Answers.{AnswersList}
use Rattle.staat_manifest.specs.declared.listing.ListedPart.{ListedPart}
use Rattle.staat_manifest.specs.Rules.{part_list_within}
use Rattle.staat_limits.specs.declared.limits.TheConstants.{FILE_LIMIT}
use Rattle.staat_input.specs.Work.{Files, Found, Follows, IsNotTaken, IsNotTakenWithin, IsTaken, IsTakenWithin}
use Rattle.staat_input.specs.Work.{to_read, too_long, taken}
use Rattle.staat_input.specs.Refusals.{off_fault, mesh_fault, manifest_fault}
use Rattle.staat_input.specs.Pieces.{SaysPiece, no_file, no_piece, piece}
use Rattle.staat_input.specs.Drawing.{piece_found, raw_in, raw_read}
use Rattle.staat_input.specs.declared.read.Drawn.{Drawn}
use Rattle.staat_input.specs.declared.limits.Limits.{Limits}
use Rattle.staat_input.specs.Inputs.{SaysListingWithin, no_listing, listing}

-- the file has more bytes than the limit
found_long : {X : Type 0} (limit : ℕ) (Says : List ℕ → Found X → Type 0) (told : ShelfTold) (files : Files) (name : List ℕ) → Fit told files → IsLonger told name limit → IsTakenWithin limit files name Says (Err (fault.TooLong name))
found_long {X} limit Says told files name fit long = go (bytes_of name files) refl (long files fit)
  where
    go : (o : Option (List ℕ)) → bytes_of name files ≡ o → IsSomeAnd o (λ bytes. limit < length bytes) → IsTakenWithin limit files name Says (Err (fault.TooLong name))
    go None e longer = absurd longer
    go (Some bytes) e longer = too_long bytes e longer refl

-- the file's bytes were read
pub found_within : {X : Type 0} (limit : ℕ) (Says : List ℕ → Found X → Type 0) (told : ShelfTold) (files : Files) (name bytes : List ℕ) (r : Result X Fault) → Fit told files → IsWhole told name bytes → length bytes ≤ limit → Follows (Says bytes) r → Follows (IsTakenWithin limit files name Says) r
found_within limit Says told files name bytes (Ok x) fit whole short says = taken bytes (whole files fit) short says
found_within limit Says told files name bytes (Err fault.OutOfMemory) fit whole short says = tt
found_within limit Says told files name bytes (Err f) fit whole short says = taken bytes (whole files fit) short says

pub found_taken : {X : Type 0} (Says : List ℕ → Found X → Type 0) (told : ShelfTold) (files : Files) (name bytes : List ℕ) (r : Result X Fault) → Fit told files → IsWhole told name bytes → length bytes ≤ FILE_LIMIT → Follows (Says bytes) r → Follows (IsTaken files name Says) r
found_taken Says told files name bytes r fit whole short says = found_within FILE_LIMIT Says told files name bytes r fit whole short says

-- the file's bytes were not taken
pub not_taken_within : {X : Type 0} (limit : ℕ) (Says : List ℕ → Found X → Type 0) (told : ShelfTold) (files : Files) (name : List ℕ) (f : Fault) → Fit told files → IsNotTakenWithin limit told name f → Follows (IsTakenWithin limit files name Says) (Err f)
not_taken_within limit Says told files name (fault.ReadFault at) fit e = to_read (ap (λ n. Err (fault.ReadFault n)) e)
not_taken_within limit Says told files name (fault.TooLong at) fit (e, long) = subst (λ n. IsTakenWithin limit files name Says (Err (fault.TooLong n))) (sym e) (found_long limit Says told files name fit long)
not_taken_within limit Says told files name fault.OutOfMemory fit e = tt
not_taken_within limit Says told files name f fit e = absurd e

pub not_taken : {X : Type 0} (Says : List ℕ → Found X → Type 0) (told : ShelfTold) (files : Files) (name : List ℕ) (f : Fault) → Fit told files → IsNotTaken told name f → Follows (IsTaken files name Says) (Err f)
not_taken Says told files name f fit e = not_taken_within FILE_LIMIT Says told files name f fit e

-- the file is no OFF file
pub says_no_file : (digits : ℕ) (name bytes : List ℕ) (refusal : OffRefusal) → Reads {X = Raw} (Err refusal) (reading digits bytes) → Follows (SaysPiece digits name bytes) (Err (off_fault name refusal))
says_no_file digits name bytes off.OutOfMemory e = tt
says_no_file digits name bytes refusal e = no_file refusal e refl

-- its mesh is no piece
pub says_no_piece : (digits : ℕ) (name bytes : List ℕ) (raw : Raw) (refusal : MeshRefusal) → reading digits bytes ≡ Ok raw → AnswersMesh (mesh raw) (Err refusal) → Follows (SaysPiece digits name bytes) (Err (mesh_fault name refusal))
says_no_piece digits name bytes raw mesh_refusal.OutOfMemory e j = tt
says_no_piece digits name bytes raw refusal e j = no_piece raw refusal e j refl

-- it is a piece
pub says_piece : (digits : ℕ) (name bytes : List ℕ) (raw : Raw) (points : List V3) → reading digits bytes ≡ Ok raw → AnswersMesh (mesh raw) (Ok points) → SaysPiece digits name bytes (Ok points)
says_piece digits name bytes raw points e j = piece raw points e j refl

-- the file is no part list
pub says_no_listing : (l : Limits) (name bytes : List ℕ) (refusal : ManifestRefusal) → AnswersList {X = List ListedPart} (part_list_within l.parts l.pieces bytes) (Err refusal) → Follows (SaysListingWithin l name bytes) (Err (manifest_fault name refusal))
says_no_listing l name bytes manifest.OutOfMemory e = tt
says_no_listing l name bytes refusal e = no_listing refusal e refl

-- it is one
pub says_listing : (l : Limits) (name bytes : List ℕ) (parts : List ListedPart) → part_list_within l.parts l.pieces bytes ≡ Ok parts → SaysListingWithin l name bytes (Ok parts)
says_listing l name bytes parts e = listing parts e refl

-- what holds of a fault holds of what was read with it
pub drawn_failed : (P : Found (List V3) → Type 0) (f : Fault) (r : Result Drawn Fault) → P (Err f) → IsErrAnd r (λ e. e ≡ f) → P (piece_found r)
drawn_failed P f (Ok x) h fails = absurd fails
drawn_failed P f (Err e) h fails = subst (λ g. P (Err g)) (sym fails) h

-- what was read are the points and faces of the file
pub raw_found : (digits : ℕ) (o : Option (List ℕ)) (bytes : List ℕ) (r : Result Drawn Fault) → o ≡ Some bytes → IfOk r (λ drawn. reading digits bytes ≡ Ok drawn.raw) → IfOk r (λ drawn. drawn.raw ≡ raw_in digits o)
raw_found digits o bytes (Ok drawn) is read = sym (ap (raw_in digits) is ∙ ap raw_read read)
raw_found digits o bytes (Err f) is read = tt

pub ruleset listing_says = (says_no_listing, says_listing)

pub ruleset saying = (says_no_file, says_no_piece, says_piece)

pub ruleset taking = (found_taken, not_taken)
