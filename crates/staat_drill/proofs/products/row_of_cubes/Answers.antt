use Rattle.std.proofs.Common.{◌≡◌, ◌∙◌, ◌++◌, ◌∷◌, [], List, ap, ap₂, sym, subst, arith}
use Rattle.std.proofs.lemmas.List.FromFn.{map-range_with_len_more}
use Rattle.staat_model.specs.declared.assembly.Part.{Part}
use Rattle.staat_model.specs.Assemblies.{IsAssembly}
use Rattle.staat_drill.specs.Products.{cube_at, row_of_cubes, part_of_boxes}
use Rattle.staat_drill.proofs.ProductLemmas.{row_is_assembly}
use Rattle.staat_drill.proofs.products.row_of_cubes.Goals as goal

pub loop-k-preserved : goal.loop-k-preserved
loop-k-preserved c =
    let k = c.loop-k.k in
    let part = c.in_ok-part_of_boxes.ensures ∙ ap (λ b. part_of_boxes (b ∷ [])) c.cube_at.ensures in
    c.in_ok-push.ensures.items ∙ ap₂ (λ (ps : List Part) (p : Part). ps ++ p ∷ []) c.loop-k.invariant part ∙ sym (map-range_with_len_more (λ k. part_of_boxes (cube_at k ∷ [])) 0 k k (omega arith))

pub whole-requires : goal.whole-requires
whole-requires c =
    let last : c.loop-k.k ≡ c.args.n = omega (arith, c.loop-k.auto.k-end, c.loop-k-test.false) in
    subst IsAssembly (sym (c.loop-k.invariant ∙ ap row_of_cubes last)) (row_is_assembly c.args.n c.requires.some c.requires.few)
