-- What the steps find that read an input, test it and count its planes is one thing.
use Rattle.std.proofs.Common.{◌≡◌, ℕ, List, length, ap, sym, ◌∙◌, subst, arith}
use Rattle.std.specs.Prelude.{Ok, Err}
use Rattle.staat_vec.proofs.Unique.{IsLeast-unique}
use Rattle.staat_model.specs.declared.assembly.Part.{Part}
use Rattle.staat_model.specs.declared.certificate.Arc.{Arc}
use Rattle.staat_model.specs.Assemblies.{IsSound}
use Rattle.staat_model.specs.Certificates.{arc_cmp}
use Rattle.staat_model.proofs.OneTable.{ArePlanes-unique}
use Rattle.staat_model.proofs.Orders.{arc_exact, arc_total}
use Rattle.staat_asm.specs.Overlaps.{IsFirstOverlap, IsOverlap}
use Rattle.staat_fault.specs.declared.fault.Fault.TheVariants.{ReadFault, Overlap, TooManyPlanes}
use Rattle.staat_mesh.specs.declared.refusal.MeshRefusal.{MeshRefusal}
use Rattle.staat_mesh.specs.declared.refusal.MeshRefusal.TheVariants as mesh_refusal
use Rattle.staat_off.specs.declared.refusal.OffRefusal.{OffRefusal}
use Rattle.staat_off.specs.declared.refusal.OffRefusal.TheVariants as off
use Rattle.staat_manifest.specs.declared.listing.ListedPart.{ListedPart}
use Rattle.staat_manifest.specs.declared.refusal.ManifestRefusal.{ManifestRefusal}
use Rattle.staat_manifest.specs.declared.refusal.ManifestRefusal.TheVariants as manifest
use Rattle.staat_vec.specs.declared.vector.V3.{V3}
use Rattle.staat_mesh.specs.Polygons.{mesh}
use Rattle.staat_mesh.specs.Judging.{Judges}
use Rattle.staat_mesh.proofs.OneAnswer.{one_answer_lemma}
use Rattle.staat_words.specs.declared.request.Asked.{Asked}
use Rattle.staat_words.specs.declared.request.Input.{Input}
use Rattle.staat_words.specs.declared.request.Input.TheVariants as input
use Rattle.staat_limits.specs.declared.limits.TheConstants.{FILE_LIMIT}
use Rattle.staat_input.specs.Work.{Files, Found, Each}
use Rattle.staat_input.specs.Refusals.{off_fault, mesh_fault, manifest_fault}
use Rattle.staat_input.specs.Pieces.{IsPieceOf, SaysPiece, no_file, no_piece, piece}
use Rattle.staat_input.specs.Moved.{IsMovedPieceOf, MovesPiece, moved, too_far}
use Rattle.staat_input.proofs.MovedLemmas.{far_not_within}
use Rattle.staat_input.specs.declared.limits.Limits.{Limits}
use Rattle.staat_input.specs.declared.limits.TheConstants.Limits.{ASSEMBLY, PRODUCT}
use Rattle.staat_input.specs.Inputs.{SaysListingWithin, no_listing, listing, IsListingOf, IsListingOfWithin, IsPartOf, IsInputOf, IsInputOfWithin, part_of}
use Rattle.staat_input.specs.Assembling.{IsTested, overlapping, sound, IsSoundOf, IsSoundProductOf}
use Rattle.staat_input.specs.Counting.{AreCounted, all_parts, few, too_many}
use Rattle.staat_input.proofs.OneFinding.{IsSettled, FindsOne, then_one, known_one, each_one, taken_one, IsSaying}
use Rattle.staat_input.proofs.OneFinding.{given_not_fault}

-- no refusal is a file that is to be read
off_settled : (name : List ℕ) (r : OffRefusal) → IsSettled {X = List V3} (Err (off_fault name r))
off_settled name off.NoHeader = tt
off_settled name r = tt

mesh_settled : (name : List ℕ) (r : MeshRefusal) → IsSettled {X = List V3} (Err (mesh_fault name r))
mesh_settled name mesh_refusal.Flat = tt
mesh_settled name r = tt

manifest_settled : (name : List ℕ) (r : ManifestRefusal) → IsSettled {X = List ListedPart} (Err (manifest_fault name r))
manifest_settled name manifest.NotJson = tt
manifest_settled name r = tt

unlike : (r : MeshRefusal) (p : List V3) → Err r ≡ Ok p → ⊥
unlike r p e = cc

piece_saying : (digits : ℕ) (name : List ℕ) → IsSaying (SaysPiece digits name)
piece_saying digits name = record { one = one; no_read = no_read }
  where
    one : (bytes : List ℕ) (f g : Found (List V3)) → SaysPiece digits name bytes f → SaysPiece digits name bytes g → f ≡ g
    one bytes f g (no_file r re e) (no_file s se d) =
        let same : r ≡ s = cc in e ∙ ap (λ x. Err (off_fault name x)) same ∙ sym d
    one bytes f g (no_file r re e) (no_piece raw s se sj d) = absurd cc
    one bytes f g (no_file r re e) (piece raw p se sj d) = absurd cc
    one bytes f g (no_piece raw r re rj e) (no_file s se d) = absurd cc
    one bytes f g (no_piece raw r re rj e) (no_piece war s se sj d) =
        let raws : raw ≡ war = cc in
        let answers : Err r ≡ Err s = one_answer_lemma (mesh war) (Err r) (Err s) (subst (λ x. Judges (mesh x) (Err r)) raws rj) sj in
        let same : r ≡ s = cc in
        e ∙ ap (λ x. Err (mesh_fault name x)) same ∙ sym d
    one bytes f g (no_piece raw r re rj e) (piece war p se sj d) =
        let raws : raw ≡ war = cc in
        absurd (unlike r p (one_answer_lemma (mesh war) (Err r) (Ok p) (subst (λ x. Judges (mesh x) (Err r)) raws rj) sj))
    one bytes f g (piece raw p re rj e) (no_file s se d) = absurd cc
    one bytes f g (piece raw p re rj e) (no_piece war s se sj d) =
        let raws : raw ≡ war = cc in
        absurd (unlike s p (sym (one_answer_lemma (mesh war) (Ok p) (Err s) (subst (λ x. Judges (mesh x) (Ok p)) raws rj) sj)))
    one bytes f g (piece raw p re rj e) (piece war q se sj d) =
        let raws : raw ≡ war = cc in
        let answers : Ok p ≡ Ok q = one_answer_lemma (mesh war) (Ok p) (Ok q) (subst (λ x. Judges (mesh x) (Ok p)) raws rj) sj in
        let same : p ≡ q = cc in
        e ∙ ap Ok same ∙ sym d

    no_read : (bytes n : List ℕ) → SaysPiece digits name bytes (Err (ReadFault n)) → ⊥
    no_read bytes n (no_file r re e) = subst IsSettled (sym e) (off_settled name r)
    no_read bytes n (no_piece raw r re rj e) = subst IsSettled (sym e) (mesh_settled name r)
    no_read bytes n (piece raw p re rj e) = given_not_fault p (ReadFault n) (sym e)

pub piece_one : (files : Files) (digits : ℕ) (name : List ℕ) → FindsOne files (IsPieceOf files digits name)
piece_one files digits name = taken_one FILE_LIMIT files name (SaysPiece digits name) (piece_saying digits name)

moves_one : (files : Files) (name : List ℕ) (at : V3) (points : List V3) → FindsOne files (MovesPiece name at points)
moves_one files name at points = record { one = λ f g a b sf sg. one f g a b; held = λ n f step lacks other settled. no_read n step }
  where
    one : (f g : Found (List V3)) → MovesPiece name at points f → MovesPiece name at points g → f ≡ g
    one f g (too_far a e) (too_far b d) = e ∙ sym d
    one f g (too_far a e) (moved b d) = absurd (far_not_within at points a b)
    one f g (moved a e) (too_far b d) = absurd (far_not_within at points b a)
    one f g (moved a e) (moved b d) = e ∙ sym d

    no_read : (n : List ℕ) → MovesPiece name at points (Err (ReadFault n)) → ⊥
    no_read n (too_far a e) = absurd cc
    no_read n (moved a e) = absurd cc

moved_one : (files : Files) (digits : ℕ) (at : V3) (name : List ℕ) → FindsOne files (IsMovedPieceOf files digits at name)
moved_one files digits at name = then_one files (IsPieceOf files digits name) (MovesPiece name at) (piece_one files digits name) (moves_one files name at)

listing_saying : (l : Limits) (name : List ℕ) → IsSaying (SaysListingWithin l name)
listing_saying l name = record { one = one; no_read = no_read }
  where
    one : (bytes : List ℕ) (f g : Found (List ListedPart)) → SaysListingWithin l name bytes f → SaysListingWithin l name bytes g → f ≡ g
    one bytes f g (no_listing r re e) (no_listing s se d) =
        let same : r ≡ s = cc in e ∙ ap (λ x. Err (manifest_fault name x)) same ∙ sym d
    one bytes f g (no_listing r re e) (listing p pe d) = absurd cc
    one bytes f g (listing p pe e) (no_listing s se d) = absurd cc
    one bytes f g (listing p pe e) (listing q qe d) =
        let same : p ≡ q = cc in e ∙ ap Ok same ∙ sym d

    no_read : (bytes n : List ℕ) → SaysListingWithin l name bytes (Err (ReadFault n)) → ⊥
    no_read bytes n (no_listing r re e) = subst IsSettled (sym e) (manifest_settled name r)
    no_read bytes n (listing p pe e) = given_not_fault p (ReadFault n) (sym e)

listing_within_one : (l : Limits) (files : Files) (asked : Input) → FindsOne files (IsListingOfWithin l files asked)
listing_within_one l files (input.Manifest name) = taken_one FILE_LIMIT files name (SaysListingWithin l name) (listing_saying l name)
listing_within_one l files (input.Files names) = known_one files _

pub listing_one : (files : Files) (asked : Input) → FindsOne files (IsListingOf files asked)
listing_one files asked = listing_within_one ASSEMBLY files asked

part_one : (files : Files) (digits : ℕ) (named : ListedPart) → FindsOne files (IsPartOf files digits named)
part_one files digits named = then_one files (Each (IsMovedPieceOf files digits named.at) named.pieces) _ (each_one files (IsMovedPieceOf files digits named.at) (moved_one files digits named.at) named.pieces) (λ pieces. known_one files (part_of named.name pieces))

input_one : (l : Limits) (files : Files) (asked : Asked) → FindsOne files (IsInputOfWithin l files asked)
input_one l files asked = then_one files (IsListingOfWithin l files asked.input) _ (listing_within_one l files asked.input) (each_one files (IsPartOf files asked.digits) (part_one files asked.digits))

apart : (parts : List Part) (arc : Arc) → IsFirstOverlap parts arc → IsSound parts → ⊥
apart parts arc first sound_is = sound_is arc (λ e. omega (arith, e, first.has.0)) first.has.1

pub tested_one : (files : Files) (parts : List Part) → FindsOne files (IsTested parts)
tested_one files parts = record { one = λ f g a b sf sg. one f g a b; held = λ name f at lacks step settled. no_read name at }
  where
    one : (f g : Found (List Part)) → IsTested parts f → IsTested parts g → f ≡ g
    one f g (overlapping arc first e) (overlapping other second d) =
        let same : arc ≡ other = IsLeast-unique arc_cmp arc_total arc_exact (IsOverlap parts) arc other first second in
        e ∙ ap (λ (x : Arc). Err (Overlap x.a x.i x.b x.j)) same ∙ sym d
    one f g (overlapping arc first e) (sound is d) = absurd (apart parts arc first is)
    one f g (sound is e) (overlapping other second d) = absurd (apart parts other second is)
    one f g (sound is e) (sound too d) = e ∙ sym d

    no_read : (name : List ℕ) → IsTested parts (Err (ReadFault name)) → ⊥
    no_read name (overlapping arc first e) = absurd cc
    no_read name (sound is e) = absurd cc

pub sound_one : (files : Files) (asked : Asked) → FindsOne files (IsSoundOf files asked)
sound_one files asked = then_one files (IsInputOf files asked) IsTested (input_one ASSEMBLY files asked) (tested_one files)

pub sound_product_one : (files : Files) (asked : Asked) → FindsOne files (IsSoundProductOf files asked)
sound_product_one files asked = then_one files (IsInputOfWithin PRODUCT files asked) IsTested (input_one PRODUCT files asked) (tested_one files)

pub counted_one : (files : Files) (parts : List Part) (limit : ℕ) → FindsOne files (AreCounted parts limit)
counted_one files parts limit = record { one = λ f g a b sf sg. one f g a b; held = λ name f at lacks step settled. no_read name at }
  where
    one : (f g : Found (List V3)) → AreCounted parts limit f → AreCounted parts limit g → f ≡ g
    one f g (too_many ps are many e) (too_many qs also most d) =
        let same : ps ≡ qs = ArePlanes-unique parts (all_parts parts) ps qs are also in
        e ∙ ap (λ (xs : List V3). Err (TooManyPlanes (length xs))) same ∙ sym d
    one f g (too_many ps are many e) (few qs also most d) =
        let same : ps ≡ qs = ArePlanes-unique parts (all_parts parts) ps qs are also in absurd (omega (arith, many, most, ap length same))
    one f g (few ps are many e) (too_many qs also most d) =
        let same : ps ≡ qs = ArePlanes-unique parts (all_parts parts) ps qs are also in absurd (omega (arith, many, most, ap length same))
    one f g (few ps are many e) (few qs also most d) = e ∙ ap Ok (ArePlanes-unique parts (all_parts parts) ps qs are also) ∙ sym d

    no_read : (name : List ℕ) → AreCounted parts limit (Err (ReadFault name)) → ⊥
    no_read name (too_many ps are many e) = absurd cc
    no_read name (few ps are most e) = absurd cc
