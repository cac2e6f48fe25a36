use Rattle.std.proofs.Common.{◌≡◌, ◌∙◌, ◌≤◌, length, ap, sym, arith}
use Rattle.staat_limits.specs.declared.limits.TheConstants.{MOST_PRODUCT_PIECES}
use Rattle.staat_model.specs.declared.assembly.Part.{Part}
use Rattle.staat_model.specs.Assemblies.{piece_count}
use Rattle.staat_model.proofs.PartCounts.{piece_count_small}
use Rattle.staat_model.proofs.ProductParts.{part_read, count_read}
use Rattle.staat_model.proofs.product.Product.pieces.Goals as goal

pub returns : goal.returns
returns c =
    let parts = c.args.self.now in
    let a = c.args.a in
    let part = c.index-as_slice-a.result in
    let same = c.as_slice.ensures ∙ c.self.view_is in
    let count : length c.as_slice-2.result.now ≡ piece_count parts a =
    ap length (c.as_slice-2.ensures ∙ ap (λ (p : Part). p.pieces) (sym c.index-as_slice-a.is))
    ∙ sym (count_read parts a part (part_read parts c.as_slice.result.now a part same c.requires c.index-as_slice-a.is)) in
    let few : piece_count c.self.inside.parts a ≤ MOST_PRODUCT_PIECES = omega (arith, piece_count_small c.self.inside.parts a, c.self.invariant.pieces) in
    let moved : piece_count c.self.inside.parts a ≡ piece_count parts a = ap (λ ps. piece_count ps a) c.self.view_is in
    record { count = count; most = omega (arith, count, few, moved) }
