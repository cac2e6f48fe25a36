use Rattle.std.proofs.Common.{◌≡◌, ◌∙◌, ◌+◌, ◌++◌, ◌∷◌, [], List, ap, ap₂, sym, subst, arith, All}
use Rattle.std.proofs.lemmas.List.FromFn.{map-range_with_len_more}
use Rattle.staat_model.specs.declared.assembly.Part.{Part}
use Rattle.staat_model.specs.Assemblies.{IsAssembly}
use Rattle.staat_drill.specs.Products.{IsBox, core, nested_boxes, slabs, part_of_boxes}
use Rattle.staat_drill.proofs.ProductLemmas.{nest_is_assembly, slabs_are_boxes}
use Rattle.staat_drill.proofs.products.nested_boxes.Goals as goal

pub part_of_boxes-requires-in-loop-k : goal.part_of_boxes-requires-in-loop-k
part_of_boxes-requires-in-loop-k c =
    let few = c.requires.few in
    subst (All IsBox) (sym c.slabs.ensures) (slabs_are_boxes c.loop-k.k c.loop-k.auto.k (omega (arith, c.loop-k-test.true, few)))

pub loop-k-preserved : goal.loop-k-preserved
loop-k-preserved c =
    let (n, k_is, items) = c.loop-k.invariant in
    let part = c.in_ok-part_of_boxes-2.ensures ∙ ap part_of_boxes c.slabs.ensures in
    let more = map-range_with_len_more (λ k. part_of_boxes (slabs k)) 1 n c.loop-k.k (omega (arith, k_is)) in (
      n + 1,
      omega (arith, k_is),
      c.in_ok-push-2.ensures.items ∙ ap₂ (λ (ps : List Part) (p : Part). ps ++ p ∷ []) items part ∙ sym (ap (λ (ps : List Part). part_of_boxes (core ∷ []) ∷ ps) more),
    )

pub whole-requires : goal.whole-requires
whole-requires c =
    let (n, k_is, items) = c.loop-k.invariant in
    let end = c.loop-k.auto.k-end in
    let last : n ≡ c.args.n = omega (arith, k_is, end, c.loop-k-test.false) in
    subst IsAssembly (sym (items ∙ ap nested_boxes last)) (nest_is_assembly c.args.n c.requires.some c.requires.few)
