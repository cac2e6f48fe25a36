use Rattle.std.proofs.Common.{◌<◌, get_or, length, take, ◌+◌}
use Rattle.std.proofs.lemmas.List.{take_more}
use Rattle.std.proofs.lemmas.List.Elements.{All-contains, All-take}
use Rattle.staat_ring.specs.declared.entry.Entry.{Entry}
use Rattle.staat_ring.specs.Order.{no_entry}
use Rattle.staat_ring.proofs.HalfTurn.{order_more, order_within}
use Rattle.staat_ring.proofs.order.in_order.Goals as goal

pub loop-e-preserved : goal.loop-e-preserved
loop-e-preserved c =
    let es = c.args.es.now in
    let i = c.loop-e.e-index in
    order_more c.args.turn.now.table.now.planes c.args.turn.now.g (get_or es i no_entry) (take i es) (take (i + 1) es) c.loop-e.entries.items c.insert.new.es.items
    (take_more es i no_entry c.loop-e-test.true) c.in_ok-insert.ensures c.loop-e.invariant

pub insert-requires-clause-es : goal.insert-requires-clause-es
insert-requires-clause-es c =
    let m = length c.args.turn.now.table.now.planes in
    let es = take c.loop-e.e-index c.args.es.now in
    order_within c.args.turn.now.table.now.planes c.args.turn.now.g m es c.loop-e.entries.items c.loop-e.invariant
    (λ e ce. All-contains (λ (e : Entry). e.plane < m) es e (All-take (λ (e : Entry). e.plane < m) c.loop-e.e-index c.args.es.now c.requires.es) ce)
