use Rattle.std.proofs.Common.{◌≡◌, ◌∙◌, ◌+◌, ◌++◌, ℕ, List, [], Ok, Err, ap, inl, length, refl, sym, subst, arith}
use Rattle.std.specs.Prelude.{sum_by, Result, IfOk, OnOk, is_ok}
use Rattle.staat_edge.specs.Fitting.{Fit, Narrows}
use Rattle.staat_edge.specs.Told.{ShelfTold}
use Rattle.staat_edge.proofs.OpeningLemmas.{narrowed, opens_some}
use Rattle.staat_explode.specs.declared.scene.Solid.{Solid}
use Rattle.staat_fault.specs.declared.fault.Fault.{Fault}
use Rattle.staat_manifest.specs.declared.listing.ListedPart.{ListedPart}
use Rattle.staat_model.specs.declared.assembly.Part.{Part}
use Rattle.staat_model.specs.Assemblies.{ArePartsWithin}
use Rattle.staat_words.specs.declared.request.Asked.{Asked}
use Rattle.staat_input.specs.declared.limits.Limits.{Limits}
use Rattle.staat_input.specs.declared.sketch.Sketch.{Sketch}
use Rattle.staat_input.specs.Drawing.{AreSmall, SketchGrows, IsDrawnWithin, solids_of}
use Rattle.staat_input.specs.Inputs.{IsListingOfWithin, IsPartOf}
use Rattle.staat_input.specs.Opened.{ReadsNames, piece_files}
use Rattle.staat_input.specs.Shapes.{AreRead, IsFewWithin, ListsPiece}
use Rattle.staat_input.specs.Work.{Each, Files}
use Rattle.staat_input.proofs.InputLemmas.{few_read, no_value, no_value_on, same_length, then_given}
use Rattle.staat_input.proofs.OpenedLemmas.{pieces_opened}
use Rattle.staat_input.proofs.SketchLemmas.{small_more, small_none}
use Rattle.staat_input.proofs.TakingLemmas.{after_none, after_step, takes_fault, takes_later}
use Rattle.staat_input.proofs.input.read_within.Goals as goal

parts_few : (l : Limits) (named : List ListedPart) (r : Result (List Part) Fault) → IsFewWithin l named → IfOk r (AreRead named) → IfOk r (ArePartsWithin l.parts l.pieces)
parts_few l named (Ok parts) few read = few_read l named parts few read
parts_few l named (Err f) few read = tt

-- the solids of all parts
abbrev AreGrown : List ListedPart → ℕ → ShelfTold → Sketch → Sketch → Type 0
AreGrown named digits told before after =
    SketchGrows (λ files. solids_of files digits named) (length named) (sum_by (λ part. length part.pieces) named) told before after

parts_drawn : (l : Limits) (files : Files) (asked : Asked) (told : ShelfTold) (before after : Sketch) (named : List ListedPart) (r : Result (List Part) Fault) → Fit told files → IsListingOfWithin l files asked.input (Ok named) → before.solids.items ≡ [] → OnOk r (AreGrown named asked.digits told before after) → OnOk r (IsDrawnWithin l files asked before.keep after)
parts_drawn l files asked told before after named (Ok parts) fit listed empty grows = record {
  named = named;
  listed = listed;
  solids = λ on. (grows.drew files fit).solids on ∙ ap (λ (xs : List Solid). xs ++ solids_of files asked.digits named) empty;
}
parts_drawn l files asked told before after named (Err f) fit listed empty grows = tt

parts_small : (l : Limits) (digits : ℕ) (told : ShelfTold) (before after : Sketch) (named : List ListedPart) (r : Result (List Part) Fault) → IsFewWithin l named → IfOk r (AreRead named) → before.solids.items ≡ [] → OnOk r (AreGrown named digits told before after)
    → IfOk r (λ parts. AreSmall (length parts) l.pieces after.solids.items)
parts_small l digits told before after named (Ok parts) few read empty grows =
    let count = same_length named parts read in
    let start = subst (AreSmall (length parts) 0) (sym empty) (small_none (length parts)) in
    let pieces = sum_by (λ (n : ListedPart). length n.pieces) named in
    small_more (length parts) (0 + pieces) l.pieces after.solids.items (omega (arith, few.pieces)) (grows.small (length parts) 0 (omega (arith, count)) start)
parts_small l digits told before after named (Err f) few read empty grows = tt

pub returns-in_err-listing : goal.returns-in_err-listing
returns-in_err-listing g c =
    let found = c.from_residual.result in
    let is = c.from_residual.ensures.1 in
    record {
      takes = takes_fault (after_none _) c.in_err-listing.ensures.takes (λ files fit f at. inl (f, at, refl))
          (λ f. c.in_err-listing.ensures.takes.opens) (λ name may. may) is;
      few = no_value _ _ found is;
      drawn = λ files fit empty. no_value_on _ _ found is;
      small = λ empty. no_value _ _ found is;
    }

pub returns : goal.returns
returns g c =
    let limits = c.args.limits in
    let asked = c.args.asked.now in
    let before = g.H.Shelf.told c.args.shelf.now in
    let mid = g.H.Shelf.told c.names_of.new.shelf in
    let now = g.H.Shelf.told c.read_parts.new.shelf in
    let named = c.as_slice.result.now in
    let names = c.in_ok-listing.ensures in
    let parts = c.read_parts.ensures in
    let few = subst (IsFewWithin limits) (sym c.as_slice.ensures) names.few in
    let back : Narrows mid now = narrowed (piece_files named) mid now parts.takes.holds
    (opens_some (is_ok c.read_parts.result) (piece_files named) mid.given now.given parts.takes.opens) in
    let listed : (files : Files) → Fit now files → IsListingOfWithin limits files asked.input (Ok named) =
    λ files fit. subst (λ (n : List ListedPart). IsListingOfWithin limits files asked.input (Ok n)) (sym c.as_slice.ensures)
    (names.takes.found files (back files fit)) in
    record {
      takes = takes_later (after_step names.takes) parts.takes
          (λ files fit rest. then_given (IsListingOfWithin limits files asked.input) (Each (IsPartOf files asked.digits)) named c.read_parts.result (listed files fit) rest)
          (pieces_opened limits (is_ok c.read_parts.result) asked.input named before mid now
          (subst (λ (n : List ListedPart). ReadsNames limits asked.input n before mid) (sym c.as_slice.ensures) names.takes.opens) parts.takes.opens)
          (λ name h. names.names name (subst (λ (n : List ListedPart). ListsPiece n name) c.as_slice.ensures h));
      few = parts_few limits named c.read_parts.result few parts.read;
      drawn = λ files fit empty. parts_drawn limits files asked now c.args.sketch.now c.read_parts.new.sketch named c.read_parts.result fit (listed files fit) empty parts.grows;
      small = λ empty. parts_small limits asked.digits now c.args.sketch.now c.read_parts.new.sketch named c.read_parts.result few parts.read empty parts.grows;
    }
