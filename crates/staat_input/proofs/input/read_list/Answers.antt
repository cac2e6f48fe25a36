use Rattle.std.proofs.Common.{◌≡◌, ◌∷◌, ℕ, List, inl, refl, subst, sym}
use Rattle.staat_edge.specs.Readings.{whole_reading}
use Rattle.staat_input.specs.Inputs.{SaysListingWithin}
use Rattle.staat_input.specs.Work.{Follows}
use Rattle.staat_input.proofs.InputLemmas.{no_value}
use Rattle.staat_input.proofs.OpenedLemmas.{list_read}
use Rattle.staat_input.proofs.ReadLemmas.{found_taken}
use Rattle.staat_input.proofs.TakingLemmas.{after_none, takes_fault, takes_pure, untaken}
use Rattle.staat_input.proofs.input.read_list.Goals as goal

pub returns-in_err-bytes : goal.returns-in_err-bytes
returns-in_err-bytes g c =
    let read = c.in_err-bytes.ensures in
    record {
      takes = takes_fault (after_none _)
          (untaken (SaysListingWithin c.args.limits c.args.name.now) (g.H.Shelf.told c.args.shelf.now) (g.H.Shelf.told c.read_file.new.shelf)
          c.args.name.now c.in_err-bytes.field-0.0 read.after read.opens read.refused read.cause)
          (λ files fit f at. at) (λ f. inl (refl, read.opens)) (λ name long. tt) c.from_residual.ensures.1;
      few = no_value _ _ c.from_residual.result c.from_residual.ensures.1;
    }

pub returns : goal.returns
returns g c =
    let name = c.args.name.now in
    let before = g.H.Shelf.told c.args.shelf.now in
    let now = g.H.Shelf.told c.read_file.new.shelf in
    let read = c.in_ok-bytes.ensures in
    record {
      takes = takes_pure read.after
          (λ files fit. found_taken (SaysListingWithin c.args.limits name) now files name c.in_ok-bytes.bytes c.listing_in.result fit read.whole read.within
          (subst (λ (bytes : List ℕ). Follows (SaysListingWithin c.args.limits name bytes) c.listing_in.result) c.as_slice.ensures c.listing_in.ensures.says))
          (list_read c.args.limits name c.as_slice.result.now c.listing_in.result before now c.listing_in.ensures.says
          (subst (λ (bytes : List ℕ). now.given ≡ whole_reading name bytes ∷ before.given) (sym c.as_slice.ensures) read.gave) read.opens)
          c.listing_in.ensures.cause;
      few = c.listing_in.ensures.few;
    }
