use Rattle.std.proofs.Common.{◌<◌, All, List, sym, subst}
use Rattle.staat_model.specs.Assemblies.{piece_count}
use Rattle.staat_rest.specs.declared.merging.Origin.{Origin}
use Rattle.staat_rest.proofs.OriginSteps.{all_exist}
use Rattle.staat_rest.proofs.merging.merged_of.Goals as goal

pub merged_parts-requires : goal.merged_parts-requires
merged_parts-requires c =
    let parts = c.args.parts.now in
    subst (λ (all : List (List Origin)). All (All (λ (o : Origin). o.piece < piece_count parts o.part)) all) (sym c.as_slice-2.ensures.value)
    (all_exist parts c.args.names.now c.as_slice.result.now c.in_ok-origins.origins.items c.in_ok-origins.ensures)
