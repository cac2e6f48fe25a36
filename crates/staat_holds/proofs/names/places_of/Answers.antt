use Rattle.std.proofs.Common.{◌∙◌, ◌++◌, ◌∷◌, [], ap, map, sym, take}
use Rattle.std.proofs.lemmas.List.{map_more, take_all}
use Rattle.staat_holds.specs.Chains.{place_of}
use Rattle.staat_holds.proofs.names.places_of.Goals as goal

pub loop-name-preserved : goal.loop-name-preserved
loop-name-preserved c =
    let change = place_of c.args.nodes.now in
    c.in_ok-push.ensures.items
    ∙ ap (λ l. l ++ c.place_of.result ∷ []) c.loop-name.invariant
    ∙ ap (λ v. map change (take c.loop-name.name-index c.args.names.now) ++ v ∷ []) c.place_of.ensures
    ∙ sym (map_more change c.args.names.now c.loop-name.name-index 0 c.loop-name-test.true)

pub returns : goal.returns
returns c =
    c.loop-name.invariant
    ∙ ap (map (place_of c.args.nodes.now)) (take_all c.loop-name.name-index c.args.names.now c.loop-name-test.false)
