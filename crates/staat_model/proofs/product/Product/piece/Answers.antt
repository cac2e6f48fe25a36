use Rattle.std.proofs.Common.{◌∙◌, ◌<◌, length, ap, refl, sym, subst}
use Rattle.std.specs.Prelude.{option_and_then, slice_get}
use Rattle.std.proofs.lemmas.Option.{slice_get_read}
use Rattle.staat_model.specs.declared.assembly.Part.{Part}
use Rattle.staat_model.proofs.ProductParts.{part_read, count_read}
use Rattle.staat_model.proofs.product.Product.piece.Goals as goal

pub returns : goal.returns
returns c =
    let parts = c.args.self.now in
    let part = c.index-as_slice-a.result in
    let pieces = c.as_slice-2.result.now in
    let there = part_read parts c.as_slice.result.now c.args.a part (c.as_slice.ensures ∙ c.self.view_is) c.requires.part c.index-as_slice-a.is in
    let few : c.args.i < length pieces = subst (λ n. c.args.i < n) (count_read parts c.args.a part there ∙ ap length (sym c.as_slice-2.ensures)) c.requires.piece in
    ap (option_and_then (λ (p : Part). slice_get p.pieces c.args.i)) there
    ∙ ap (λ ps. slice_get ps c.args.i) (sym c.as_slice-2.ensures)
    ∙ slice_get_read pieces (length pieces) c.args.i c.index-as_slice-i.result refl few c.index-as_slice-i.is
