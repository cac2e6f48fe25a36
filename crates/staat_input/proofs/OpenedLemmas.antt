-- The files that the work on an input opens.
use Rattle.std.proofs.Common.{◌≡◌, ◌∙◌, ℕ, ◌+◌, ◌<◌, Bool, true, false, List, [], ◌∷◌, ◌++◌, map, take, drop, get_or, length, Ok, Err, refl, sym, ap, subst, inl, inr, append-nil}
use Rattle.std.proofs.lemmas.Grind.{flat_map-append}
use Rattle.std.proofs.lemmas.List.{flat_map_more, take-append-drop, take_more}
use Rattle.staat_edge.specs.Opening.{Opens, OpensAll, OpensFiles, OpensSome}
use Rattle.staat_edge.specs.Readings.{FileReading, whole_reading}
use Rattle.staat_edge.specs.Told.{ShelfTold}
use Rattle.staat_edge.proofs.OpeningLemmas.{all_some, none_opened, opens_some, some_of_more}
use Rattle.staat_manifest.specs.declared.listing.ListedPart.{ListedPart}
use Rattle.staat_words.specs.declared.request.Input.{Input}
use Rattle.staat_words.specs.declared.request.Input.TheVariants as inputs
use Rattle.staat_input.specs.declared.limits.Limits.{Limits}
use Rattle.staat_input.specs.Inputs.{SaysListingWithin, alone, listing, no_listing}
use Rattle.staat_input.specs.Work.{Follows, Found}
use Rattle.staat_input.specs.Opened.{OpensInput, OpensNames, OpensSomeOf, ReadsNames, piece_files}

-- where no file was opened, those that were are a beginning of any
pub unopened : (limits : Limits) (source : Input) (more : List (List ℕ)) (before now : ShelfTold) → now.given ≡ before.given → OpensSomeOf limits source more before now
unopened limits (inputs.Files names) more before now same = none_opened (names ++ more) before.given now.given same
unopened limits (inputs.Manifest name) more before now same = inl (refl, inl same)

-- all of them are a beginning of them
pub input_some : (limits : Limits) (ends : Bool) (source : Input) (more : List (List ℕ)) (before now : ShelfTold) → OpensInput limits ends source more before now → OpensSomeOf limits source more before now
input_some limits ends (inputs.Files names) more before now opens = opens_some ends (names ++ more) before.given now.given opens
input_some limits ends (inputs.Manifest name) more before now (inl part) = inl (refl, part.1)
input_some limits ends (inputs.Manifest name) more before now (inr listed) =
    inr (record {
      bytes = listed.bytes;
      parts = listed.parts;
      listed = listed.listed;
      opens = opens_some ends (piece_files listed.parts ++ more) _ now.given listed.opens;
    })

-- where each of these files was opened, that was so whether the work came to its end or not
pub all_opened : (ends : Bool) (names : List (List ℕ)) (before now : List FileReading) → OpensAll names before now → Opens ends names before now
all_opened true names before now all = all
all_opened false names before now all = all_some names before now all

pub input_opened : (limits : Limits) (ends : Bool) (source : Input) (more : List (List ℕ)) (before now : ShelfTold) → OpensInput limits true source more before now → OpensInput limits ends source more before now
input_opened limits true source more before now opens = opens
input_opened limits false source more before now opens = input_some limits true source more before now opens

-- ---- loops over names

-- one file more
pub name_next : (names : List (List ℕ)) (i : ℕ) (name : List ℕ) → i < length names → name ≡ get_or names i name → take i names ++ name ∷ [] ≡ take (i + 1) names
name_next names i name lt at = ap (λ (n : List ℕ). take i names ++ n ∷ []) at ∙ sym (take_more names i name lt)

-- some of the first names are some of all
pub names_some : (names : List (List ℕ)) (i : ℕ) (before now : List FileReading) → OpensSome (take i names) before now → OpensSome names before now
names_some names i before now some =
    subst (λ (ns : List (List ℕ)). OpensSome ns before now) (take-append-drop i names) (some_of_more (take i names) (drop i names) before now some)

-- the files of one part more
pub part_next : (parts : List ListedPart) (i : ℕ) (part : ListedPart) → i < length parts → part ≡ get_or parts i part → piece_files (take i parts) ++ part.pieces ≡ piece_files (take (i + 1) parts)
part_next parts i part lt at =
    ap (λ (p : ListedPart). piece_files (take i parts) ++ p.pieces) at ∙ flat_map_more (λ (p : ListedPart). p.pieces) [] (take i parts) (get_or parts i part) ∙ ap piece_files (sym (take_more parts i part lt))

-- some of the first parts' files are some of those of all
pub parts_some : (parts : List ListedPart) (i : ℕ) (before now : List FileReading) → OpensSome (piece_files (take i parts)) before now → OpensSome (piece_files parts) before now
parts_some parts i before now some =
    let same = sym (flat_map-append (λ (p : ListedPart). p.pieces) (take i parts) (drop i parts)) ∙ ap piece_files (take-append-drop i parts) in
    subst (λ (ns : List (List ℕ)). OpensSome ns before now) same (some_of_more (piece_files (take i parts)) (piece_files (drop i parts)) before now some)

-- ---- an input

-- the files of parts of one piece
files_alone : (names : List (List ℕ)) → piece_files (map alone names) ≡ names
files_alone [] = refl
files_alone (name ∷ names) = ap (λ (rest : List (List ℕ)). name ∷ rest) (files_alone names)

-- after the names the files of the pieces are opened
pub pieces_opened : (limits : Limits) (ends : Bool) (source : Input) (parts : List ListedPart) (before mid now : ShelfTold) → ReadsNames limits source parts before mid → OpensFiles ends (piece_files parts) mid now → OpensInput limits ends source [] before now
pieces_opened limits ends (inputs.Files names) parts before mid now (same, alike) opens =
    let files = ap piece_files alike ∙ files_alone names ∙ sym (append-nil names) in
    subst (λ (g : List FileReading). Opens ends (names ++ []) g now.given) same
    (subst (λ (ns : List (List ℕ)). Opens ends ns mid.given now.given) files opens)
pieces_opened limits ends (inputs.Manifest name) parts before mid now read opens =
    inr (record {
      bytes = read.bytes;
      parts = parts;
      listed = read.listed;
      opens = subst (λ (g : List FileReading). Opens ends (piece_files parts ++ []) g now.given) read.gave
          (subst (λ (ns : List (List ℕ)). Opens ends ns mid.given now.given) (sym (append-nil (piece_files parts))) opens);
    })

-- the bytes of the part list say which parts these are; where it does not serve, it alone was opened
pub list_read : (limits : Limits) (name bytes : List ℕ) (r : Found (List ListedPart)) (before now : ShelfTold) → Follows (SaysListingWithin limits name bytes) r → now.given ≡ whole_reading name bytes ∷ before.given → OpensFiles true (name ∷ []) before now → OpensNames limits (inputs.Manifest name) before now r
list_read limits name bytes (Err f) before now says gave opens = inl (refl, all_some (name ∷ []) before.given now.given opens)
list_read limits name bytes (Ok parts) before now (no_listing refusal e f) gave opens = absurd cc
list_read limits name bytes (Ok parts) before now (listing found e f) gave opens =
    let same : parts ≡ found = cc in
    record { bytes = bytes; listed = e ∙ ap Ok (sym same); gave = gave }
