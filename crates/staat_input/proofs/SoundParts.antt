-- What an input gives are sound parts.
use Rattle.std.proofs.Common.{◌≡◌, ℕ, suc, List, [], ◌∷◌, map, length, All, refl, ap, ap₂, sym, subst, inl, inr, ◌≤◌, lit≤}
use Rattle.std.proofs.lemmas.List.Elements.{All-nil, All-cons}
use Rattle.std.specs.Prelude.{Ok}
use Rattle.staat_vec.specs.declared.vector.V3.{V3}
use Rattle.staat_model.specs.declared.assembly.Part.{Part}
use Rattle.staat_model.specs.Assemblies.{ArePartsWithin, IsSound}
use Rattle.staat_model.specs.Pieces.{IsPiece}
use Rattle.staat_manifest.specs.declared.listing.ListedPart.{ListedPart}
use Rattle.staat_off.proofs.Bounds.{reading_bounded}
use Rattle.staat_manifest.proofs.Accepted.{within_limits}
use Rattle.staat_mesh.proofs.MakeLemmas.{accepted_piece}
use Rattle.staat_limits.specs.declared.limits.TheConstants.{MOST_PRODUCT_PARTS}
use Rattle.staat_words.specs.Requests.{IsAsked, IsAskedWithin, IsInputWithin}
use Rattle.staat_words.specs.declared.request.Input.{Input}
use Rattle.staat_words.specs.declared.request.Input.TheVariants as inputs
use Rattle.staat_words.specs.declared.request.Asked.{Asked}
use Rattle.staat_input.specs.declared.answer.Answer.{Answer}
use Rattle.staat_input.specs.Counting.{AreCounted}
use Rattle.staat_input.specs.Work.{Files, Found, Each, Then, to_read, too_long, taken}
use Rattle.staat_input.specs.declared.limits.Limits.{Limits}
use Rattle.staat_input.specs.declared.limits.TheConstants.Limits.{ASSEMBLY, PRODUCT}
use Rattle.staat_input.specs.Inputs.{alone, SaysListingWithin, no_listing, listing, IsListingOfWithin, IsPartOf}
use Rattle.staat_input.specs.Inputs.{IsInputOfWithin, part_of}
use Rattle.staat_input.specs.Shapes.{AreRead, IsFewWithin}
use Rattle.staat_input.proofs.InputLemmas.{few_read, listing_few, named_files, none_read}
use Rattle.staat_input.specs.Pieces.{IsPieceOf, SaysPiece, no_file, no_piece, piece}
use Rattle.staat_input.specs.Moved.{IsMovedPieceOf, moved, too_far}
use Rattle.staat_asm.specs.Placing.{shifted}
use Rattle.staat_asm.proofs.PlacingLemmas.{shifted_piece}
use Rattle.staat_input.specs.Assembling.{IsTested, overlapping, sound, IsSoundOf, AreSoundParts}
use Rattle.staat_input.specs.Assembling.{IsSoundProductOf, AreSoundProductParts}

pub same_points : (p q : List V3) → ◌≡◌ {A = Found (List V3)} (Ok p) (Ok q) → q ≡ p
same_points p q e = cc

says_piece : (digits : ℕ) (name bytes : List ℕ) (p : List V3) → SaysPiece digits name bytes (Ok p) → IsPiece p
says_piece digits name bytes p (no_file r re e) = absurd cc
says_piece digits name bytes p (no_piece raw r re rj e) = absurd cc
says_piece digits name bytes p (piece raw q re rj e) = subst IsPiece (same_points p q e) (accepted_piece raw q (reading_bounded digits bytes raw re).indexed rj)

-- what the step gives is a piece
pub gives_piece : (files : Files) (digits : ℕ) (name : List ℕ) (p : List V3) → IsPieceOf files digits name (Ok p) → IsPiece p
gives_piece files digits name p (to_read e) = absurd cc
gives_piece files digits name p (too_long x xe xl e) = absurd cc
gives_piece files digits name p (taken x xe xs xt) = says_piece digits name x p xt

-- what the step gives that moves it is one too
gives_moved : (files : Files) (digits : ℕ) (at : V3) (name : List ℕ) (p : List V3) → IsMovedPieceOf files digits at name (Ok p) → IsPiece p
gives_moved files digits at name p (inl (f, found, e)) = absurd cc
gives_moved files digits at name p (inr (q, first, too_far far e)) = absurd cc
gives_moved files digits at name p (inr (q, first, moved within e)) = subst IsPiece (same_points p (shifted at q) e) (shifted_piece at q (gives_piece files digits name q first) within)

pieces_read : (files : Files) (digits : ℕ) (at : V3) (names : List (List ℕ)) (pieces : List (List V3)) → Each (IsMovedPieceOf files digits at) names (Ok pieces) → (length pieces ≡ length names) × All IsPiece pieces
pieces_read files digits at [] pieces e =
    let same : pieces ≡ [] = cc in
    subst (λ (ps : List (List V3)). (length ps ≡ 0) × All IsPiece ps) (sym same) (refl, All-nil IsPiece)
pieces_read files digits at (name ∷ names) pieces (inl (f, found, e)) = absurd cc
pieces_read files digits at (name ∷ names) pieces (inr (p, first, inl (f, found, e))) = absurd cc
pieces_read files digits at (name ∷ names) pieces (inr (p, first, inr (ps, later, e))) =
    let same : pieces ≡ p ∷ ps = cc in
    let rest : (length ps ≡ length names) × All IsPiece ps = pieces_read files digits at names ps later in
    subst (λ (qs : List (List V3)). (length qs ≡ length (name ∷ names)) × All IsPiece qs) (sym same)
    (ap (λ n. suc n) rest.0, All-cons IsPiece p ps (gives_moved files digits at name p first) rest.1)

part_read : (files : Files) (digits : ℕ) (n : ListedPart) (part : Part) → IsPartOf files digits n (Ok part) → (length part.pieces ≡ length n.pieces) × All IsPiece part.pieces
part_read files digits n part (inl (f, found, e)) = absurd cc
part_read files digits n part (inr (pieces, each, e)) =
    let same : part ≡ part_of n.name pieces = cc in
    subst (λ (q : Part). (length q.pieces ≡ length n.pieces) × All IsPiece q.pieces) (sym same) (pieces_read files digits n.at n.pieces pieces each)

parts_read : (files : Files) (digits : ℕ) (named : List ListedPart) (parts : List Part) → Each (IsPartOf files digits) named (Ok parts) → AreRead named parts
parts_read files digits [] parts e = let same : parts ≡ [] = cc in subst (AreRead []) (sym same) none_read
parts_read files digits (n ∷ named) parts (inl (f, at, e)) = absurd cc
parts_read files digits (n ∷ named) parts (inr (part, first, inl (f, at, e))) = absurd cc
parts_read files digits (n ∷ named) parts (inr (part, first, inr (others, later, e))) =
    let same : parts ≡ part ∷ others = cc in
    let here : (length part.pieces ≡ length n.pieces) × All IsPiece part.pieces = part_read files digits n part first in
    let rest : AreRead named others = parts_read files digits named others later in
    subst (AreRead (n ∷ named)) (sym same) (record {
      each = ap₂ (λ k ks. k ∷ ks) here.0 rest.each;
      pieces = All-cons (λ part. All IsPiece part.pieces) part others here.1 rest.pieces;
    })

says_few : (l : Limits) (name bytes : List ℕ) (named : List ListedPart) → SaysListingWithin l name bytes (Ok named) → IsFewWithin l named
says_few l name bytes named (no_listing r re e) = absurd cc
says_few l name bytes named (listing p pe e) = let same : named ≡ p = cc in subst (IsFewWithin l) (sym same) (listing_few l p (within_limits l.parts l.pieces bytes (Ok p) pe))

names_few : (l : Limits) (files : Files) (input : Input) (named : List ListedPart) → l.parts ≤ l.pieces → IsInputWithin l.parts input → IsListingOfWithin l files input (Ok named) → IsFewWithin l named
names_few l files (inputs.Manifest name) named room bounds (to_read e) = absurd cc
names_few l files (inputs.Manifest name) named room bounds (too_long x xe xl e) = absurd cc
names_few l files (inputs.Manifest name) named room bounds (taken x xe xs xt) = says_few l name x named xt
names_few l files (inputs.Files names) named room bounds e =
    let same : named ≡ map alone names = cc in named_files l names named room bounds same

-- what the step gives keeps the limits
input_within : (l : Limits) (files : Files) (asked : Asked) (parts : List Part) → l.parts ≤ l.pieces → IsAskedWithin l.parts asked → IsInputOfWithin l files asked (Ok parts) → ArePartsWithin l.parts l.pieces parts
input_within l files asked parts room bounds (inl (f, at, e)) = absurd cc
input_within l files asked parts room bounds (inr (named, listed, read)) =
    few_read l named parts (names_few l files asked.input named room bounds.1 listed) (parts_read files asked.digits named parts read)

-- what the test gives are sound parts
tested_gives : (parts built : List Part) → IsTested parts (Ok built) → IsSound parts
tested_gives parts built (overlapping arc first e) = absurd cc
tested_gives parts built (sound is e) = is

-- and they are the parts that it was given
tested_same : (parts built : List Part) → IsTested parts (Ok built) → parts ≡ built
tested_same parts built (overlapping arc first e) = absurd cc
tested_same parts built (sound is e) = cc

pub sound_parts : (files : Files) (asked : Asked) (built : List Part) → IsAsked asked → IsSoundOf files asked (Ok built) → AreSoundParts files asked built
sound_parts files asked built bounds (inl (fault, at, e)) = absurd cc
sound_parts files asked built bounds (inr (parts, found, test)) =
    subst (AreSoundParts files asked) (tested_same parts built test)
    (record { named = found; assembly = input_within ASSEMBLY files asked parts (lit≤ tt) bounds found; sound = tested_gives parts built test })

pub sound_product_parts : (files : Files) (asked : Asked) (built : List Part) → IsAskedWithin MOST_PRODUCT_PARTS asked → IsSoundProductOf files asked (Ok built) → AreSoundProductParts files asked built
sound_product_parts files asked built bounds (inl (fault, at, e)) = absurd cc
sound_product_parts files asked built bounds (inr (parts, found, test)) =
    subst (AreSoundProductParts files asked) (tested_same parts built test)
    (record { named = found; product = input_within PRODUCT files asked parts (lit≤ tt) bounds found; sound = tested_gives parts built test })

pub same_answer : (a b : Answer) → ◌≡◌ {A = Found Answer} (Ok a) (Ok b) → b ≡ a
same_answer a b e = cc

pub same_status : (a b : Answer) → ◌≡◌ {A = Found Answer} (Ok a) (Ok b) → a.status ≡ b.status
same_status a b e = let same : a ≡ b = cc in ap (λ (x : Answer). x.status) same

-- the parts of an answer to which the work comes after their planes were counted
pub counted_answer : (files : Files) (asked : Asked) (limit : ℕ) (Last : List Part → Found Answer → Type 0) (a : Answer) → IsAsked asked
    → Then (IsSoundOf files asked) (λ parts. Then (AreCounted parts limit) (λ planes. Last parts)) (Ok a)
    → (parts : List Part) × AreSoundParts files asked parts × Last parts (Ok a)
counted_answer files asked limit Last a bounds (inl (fault, at, e)) = absurd cc
counted_answer files asked limit Last a bounds (inr (parts, found, inl (fault, at, e))) = absurd cc
counted_answer files asked limit Last a bounds (inr (parts, found, inr (planes, counted, last))) =
    (parts, sound_parts files asked parts bounds found, last)

-- what the text of an answer says, the text of the same answer says
pub said : (Says : List ℕ → Type 0) (told a : Answer) → ◌≡◌ {A = Found Answer} (Ok a) (Ok told) → (told.status ≡ a.status → Says told.text) → Says a.text
said Says told a e says =
    subst (λ (b : Answer). (told.status ≡ b.status → Says told.text) → Says b.text) (same_answer a told e) (λ is. is refl) says
