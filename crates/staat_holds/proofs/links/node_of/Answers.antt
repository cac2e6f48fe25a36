use Rattle.std.proofs.Common.{◌≡◌, ◌∙◌, ap, sym}
use Rattle.std.specs.Prelude.{None, Some}
use Rattle.std.proofs.lemmas.Option.{slice_get-get_or}
use Rattle.staat_model.proofs.Places.{place_within}
use Rattle.staat_holds.proofs.links.node_of.Goals as goal

pub unreachable-requires : goal.unreachable-requires
unreachable-requires c =
    let there = slice_get-get_or c.args.nodes.now c.args.a None (place_within c.args.nodes.now c.args.a _ c.requires.is) in
    let wrong : Some None ≡ Some (Some c.requires.node) = sym (there ∙ ap Some c.in-None.is) ∙ c.requires.is in
    cc

pub returns : goal.returns
returns c =
    slice_get-get_or c.args.nodes.now c.args.a None (place_within c.args.nodes.now c.args.a _ c.requires.is)
    ∙ ap Some c.in-Some.is
