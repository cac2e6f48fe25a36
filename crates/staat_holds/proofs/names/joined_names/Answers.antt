use Rattle.std.proofs.Common.{◌∙◌, ◌++◌, ◌∷◌, [], ap, map, sym, take}
use Rattle.std.proofs.lemmas.List.{map_more, take_all}
use Rattle.staat_holds.specs.Chains.{joined_name}
use Rattle.staat_holds.proofs.names.joined_names.Goals as goal

pub loop-name-preserved : goal.loop-name-preserved
loop-name-preserved c =
    let change = joined_name c.args.nodes.now in
    c.in_ok-push.ensures.items
    ∙ ap (λ l. l ++ c.joined_name.result ∷ []) c.loop-name.invariant
    ∙ ap (λ v. map change (take c.loop-name.name-index c.args.names.now) ++ v ∷ []) c.joined_name.ensures
    ∙ sym (map_more change c.args.names.now c.loop-name.name-index 0 c.loop-name-test.true)

pub returns : goal.returns
returns c =
    c.loop-name.invariant
    ∙ ap (map (joined_name c.args.nodes.now)) (take_all c.loop-name.name-index c.args.names.now c.loop-name-test.false)
