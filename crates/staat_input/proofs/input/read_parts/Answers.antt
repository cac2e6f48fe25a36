use Rattle.std.proofs.Common.{◌+◌, refl, sym, subst, ap, arith, take, length, ℕ, List, []}
use Rattle.std.specs.Prelude.{sum_by}
use Rattle.std.proofs.lemmas.List.{take_all}
use Rattle.staat_edge.specs.Opening.{OpensSome}
use Rattle.staat_edge.proofs.OpeningLemmas.{none_opened}
use Rattle.staat_input.specs.Opened.{piece_files}
use Rattle.staat_manifest.specs.declared.listing.ListedPart.{ListedPart}
use Rattle.staat_input.specs.Drawing.{SketchGrows, solids_of}
use Rattle.staat_input.specs.Shapes.{AreRead}
use Rattle.staat_input.specs.Inputs.{IsPartOf}
use Rattle.staat_input.proofs.InputLemmas.{no_value, no_value_on, none_read, one_read}
use Rattle.staat_input.proofs.OpenedLemmas.{part_next, parts_some}
use Rattle.staat_input.proofs.SketchLemmas.{grows_more, grows_none, parts_more, pieces_counted}
use Rattle.staat_input.proofs.TakingLemmas.{HasTaken, after_none, none_taken, taken_end, taken_fault, taken_memory, taken_more, takes_back, takes_memory}
use Rattle.staat_input.proofs.input.read_parts.Goals as goal

pub loop-named-init : goal.loop-named-init
loop-named-init g c =
    let told = g.H.Shelf.told c.args.shelf.now in
    let items = c.in_ok-parts.ensures.items in
    record {
      taken = subst (λ done. HasTaken (λ files. IsPartOf files c.args.digits) c.args.listing.now 0 done [] told told) (sym items)
          (none_taken (λ files. IsPartOf files c.args.digits) c.args.listing.now told);
      read = subst (AreRead []) (sym items) none_read;
      number = refl;
      grows = grows_none (λ files. solids_of files c.args.digits []) (length c.args.listing.now) told c.args.sketch.now (λ files. refl);
    }

pub loop-named-preserved : goal.loop-named-preserved
loop-named-preserved g c =
    let loop = c.loop-named in
    let named = c.named-item.result in
    let part = c.in_ok-read_part.field-0 in
    let items = c.in_ok-push.ensures.items in
    let lt = c.loop-named-test.true in
    record {
      taken = taken_more loop.invariant.taken named named.pieces lt c.named-item.is _ part _ c.in_ok-read_part.ensures.takes items
          (part_next c.args.listing.now loop.named-index named lt c.named-item.is);
      read = subst (AreRead (take (loop.named-index + 1) c.args.listing.now)) (sym items)
          (one_read c.args.listing.now loop.named-index named loop.parts.items part lt loop.invariant.read c.named-item.is c.in_ok-read_part.ensures.pieces.1 c.in_ok-read_part.ensures.pieces.0);
      number = ap (λ n. n + 1) loop.invariant.number;
      grows = grows_more _ (takes_back named.pieces c.in_ok-read_part.ensures.takes) (omega (arith, loop.invariant.number, lt))
          (sym (pieces_counted c.args.listing.now loop.named-index named lt c.named-item.is))
          (λ files. parts_more files c.args.digits c.args.listing.now loop.named-index loop.number named lt c.named-item.is loop.invariant.number)
          loop.invariant.grows c.in_ok-read_part.ensures.grows;
    }

pub returns-in_err-parts : goal.returns-in_err-parts
returns-in_err-parts g c = record {
  takes = takes_memory (after_none _) (λ f. none_opened (piece_files c.args.listing.now) _ _ refl) c.from_residual.ensures.1;
  read = no_value _ _ c.from_residual.result c.from_residual.ensures.1;
  grows = no_value_on _ _ c.from_residual.result c.from_residual.ensures.1;
}

pub returns-in_err-read_part : goal.returns-in_err-read_part
returns-in_err-read_part g c =
    let is = c.from_residual-in_err-read_part.ensures.1 in
    let named = c.named-item.result in
    let lt = c.loop-named-test.true in
    let before = (g.H.Shelf.told c.args.shelf.now).given in
    let now = (g.H.Shelf.told c.read_part.new.shelf).given in
    record {
      takes = taken_fault c.loop-named.invariant.taken named named.pieces lt c.named-item.is (piece_files c.args.listing.now) _ c.in_err-read_part.ensures.takes
          (λ some. parts_some c.args.listing.now (c.loop-named.named-index + 1) before now (subst (λ (ns : List (List ℕ)). OpensSome ns before now)
          (part_next c.args.listing.now c.loop-named.named-index named lt c.named-item.is) some))
          (λ long h. record { part = named; listed = (c.loop-named.named-index, lt, sym c.named-item.is); piece = h }) is;
      read = no_value _ _ c.from_residual-in_err-read_part.result is;
      grows = no_value_on _ _ c.from_residual-in_err-read_part.result is;
    }

pub returns-in_err-push : goal.returns-in_err-push
returns-in_err-push g c =
    let is = c.from_residual-in_err-push.ensures.1 in
    let named = c.named-item.result in
    let lt = c.loop-named-test.true in
    record {
      takes = taken_memory (taken_more c.loop-named.invariant.taken named named.pieces lt c.named-item.is _ c.in_ok-read_part.field-0 _ c.in_ok-read_part.ensures.takes refl
          (part_next c.args.listing.now c.loop-named.named-index named lt c.named-item.is))
          (piece_files c.args.listing.now) (parts_some c.args.listing.now (c.loop-named.named-index + 1) _ _) is;
      read = no_value _ _ c.from_residual-in_err-push.result is;
      grows = no_value_on _ _ c.from_residual-in_err-push.result is;
    }

pub returns : goal.returns
returns g c =
    let loop = c.loop-named in
    let all = take_all loop.named-index c.args.listing.now c.loop-named-test.false in
    record {
      takes = taken_end loop.invariant.taken (piece_files c.args.listing.now) c.from_vec.result c.loop-named-test.false c.from_vec.ensures (ap piece_files all);
      read = subst (AreRead c.args.listing.now) (sym c.from_vec.ensures) (subst (λ (named : List ListedPart). AreRead named loop.parts.items) all loop.invariant.read);
      grows = subst (λ (named : List ListedPart). SketchGrows (λ files. solids_of files c.args.digits named) (length c.args.listing.now) (sum_by (λ (n : ListedPart). length n.pieces) named) (g.H.Shelf.told loop.shelf) c.args.sketch.now loop.sketch)
          all loop.invariant.grows;
    }
