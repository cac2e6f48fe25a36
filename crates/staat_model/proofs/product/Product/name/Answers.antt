use Rattle.std.proofs.Common.{◌∙◌, ap, sym}
use Rattle.std.specs.Prelude.{Some, option_map}
use Rattle.staat_model.specs.declared.assembly.Part.{Part}
use Rattle.staat_model.proofs.ProductParts.{part_read}
use Rattle.staat_model.proofs.product.Product.name.Goals as goal

pub returns : goal.returns
returns c =
    let parts = c.args.self.now in
    let part = c.index-as_slice-a.result in
    let there = part_read parts c.as_slice.result.now c.args.a part (c.as_slice.ensures ∙ c.self.view_is) c.requires c.index-as_slice-a.is in
    ap (option_map (λ (p : Part). p.name)) there ∙ ap Some (ap (λ (p : Part). p.name) c.index-as_slice-a.is ∙ sym c.as_str.ensures)
