use Rattle.std.proofs.Common.{◌∙◌, arith, ℕ, List, [], Result, Ok, Err, ap, map, refl, subst, sym}
use Rattle.std.proofs.lemmas.Grind.{elements}
use Rattle.std.specs.Prelude.{Contains, IfOk}
use Rattle.staat_words.specs.Requests.{IsInputWithin}
use Rattle.staat_fault.specs.declared.fault.Fault.{Fault}
use Rattle.staat_manifest.specs.declared.listing.ListedPart.{ListedPart}
use Rattle.staat_words.specs.declared.request.Input.{Input}
use Rattle.staat_words.specs.declared.request.Input.TheVariants.{Manifest}
use Rattle.staat_input.specs.Causes.{MayName}
use Rattle.staat_input.specs.Shapes.{ListsPiece}
use Rattle.staat_input.specs.Inputs.{IsListingOfWithin, alone}
use Rattle.staat_input.specs.Opened.{OpensNames}
use Rattle.staat_input.specs.Taking.{TakesStep}
use Rattle.staat_input.proofs.InputLemmas.{named_files, no_value}
use Rattle.staat_input.proofs.OpenedLemmas.{unopened}
use Rattle.staat_input.proofs.TakingLemmas.{after_none, takes_memory, takes_pure}
use Rattle.staat_input.proofs.input.names_of.Goals as goal

-- the parts that files are have no other pieces
lists_alone : (names : List (List ℕ)) (name : List ℕ) → ListsPiece (map alone names) name → Contains names name
lists_alone names name lists = grind (arith, elements)

-- a part list may name any file
names_free : (r : Result (List ListedPart) Fault) (list : List ℕ)
    → IfOk r (λ listing. (name : List ℕ) → ListsPiece listing name → MayName (Manifest list) name)
names_free (Ok listing) list = λ name lists. tt
names_free (Err fault) list = tt

pub returns-in_err-listing-in-Files : goal.returns-in_err-listing-in-Files
returns-in_err-listing-in-Files g c = record {
  takes = takes_memory (after_none _) (λ f. unopened c.args.limits c.args.input.now [] _ _ refl) c.from_residual.ensures.1;
  few = no_value _ _ c.from_residual.result c.from_residual.ensures.1;
  names = no_value _ _ c.from_residual.result c.from_residual.ensures.1;
}

pub returns-in-Manifest : goal.returns-in-Manifest
returns-in-Manifest g c =
    let before = g.H.Shelf.told c.args.shelf.now in
    let now = g.H.Shelf.told c.read_list.new.shelf in
    record {
      takes = subst (λ (i : Input). TakesStep (λ files. IsListingOfWithin c.args.limits files i) (OpensNames c.args.limits i before now) (MayName i) before now c.read_list.result)
          (sym c.in-Manifest.is) c.read_list.ensures.takes;
      few = c.read_list.ensures.few;
      names = subst (λ (i : Input). IfOk c.read_list.result (λ listing. (name : List ℕ) → ListsPiece listing name → MayName i name))
          (sym c.in-Manifest.is) (names_free c.read_list.result c.in-Manifest.name);
    }

pub returns-in_ok-listing-in-Files : goal.returns-in_ok-listing-in-Files
returns-in_ok-listing-in-Files g c =
    let told = g.H.Shelf.told c.args.shelf.now in
    let listing = c.in_ok-listing-in-Files.listing in
    let alike = c.in_ok-listing-in-Files.ensures ∙ ap (map alone) c.as_slice.ensures in
    record {
      takes = subst (λ (i : Input). TakesStep (λ files. IsListingOfWithin c.args.limits files i) (OpensNames c.args.limits i told told) (MayName i) told told (Ok listing))
          (sym c.in-Files.is)
          (takes_pure (after_none told) (λ files fit. ap (λ (l : List ListedPart). Ok l) alike) (refl, alike) (λ shelf. tt));
      few = named_files c.args.limits c.in-Files.names listing c.requires.room (subst (IsInputWithin c.args.limits.parts) c.in-Files.is c.requires.input) alike;
      names = subst (λ (i : Input). (name : List ℕ) → ListsPiece listing name → MayName i name) (sym c.in-Files.is)
          (λ name lists. lists_alone c.in-Files.names name (subst (λ (l : List ListedPart). ListsPiece l name) alike lists));
    }
