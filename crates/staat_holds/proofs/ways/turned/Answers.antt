use Rattle.std.proofs.Common.{◌∙◌, ◌++◌, ◌∷◌, [], ap, get_or, map, sym}
use Rattle.std.proofs.lemmas.List.{map_more, take_all}
use Rattle.staat_holds.specs.declared.ways.Way.{Way}
use Rattle.staat_holds.specs.VisitedNodes.{turned_way}
use Rattle.staat_holds.proofs.ways.turned.Goals as goal

abbrev no_way : Way
no_way = record { from = 0; to = 0 }

pub loop-way-preserved : goal.loop-way-preserved
loop-way-preserved c =
    c.in_ok-push.ensures.items
    ∙ ap (λ l. l ++ turned_way (get_or c.args.ways.now c.loop-way.way-index no_way) ∷ []) c.loop-way.invariant
    ∙ sym (map_more turned_way c.args.ways.now c.loop-way.way-index no_way c.loop-way-test.true)

pub returns : goal.returns
returns c =
    c.loop-way.invariant
    ∙ ap (map turned_way) (take_all c.loop-way.way-index c.args.ways.now c.loop-way-test.false)
