use Rattle.std.proofs.Common.{◌<◌, List, length, subst}
use Rattle.std.proofs.lemmas.List.Elements.{All-contains}
use Rattle.staat_ring.specs.declared.entry.Entry.{Entry}
use Rattle.staat_ring.specs.Order.{Rises}
use Rattle.staat_ring.proofs.HalfTurn.{order_own, order_within}
use Rattle.staat_ring.proofs.order.divided.Goals as goal

pub returns-then-run-clause-order : goal.returns-then-run-clause-order
returns-then-run-clause-order c =
    let planes = c.args.turn.now.table.now.planes in
    order_own planes c.args.turn.now.g c.args.es.items (subst (λ (es : List Entry). Rises planes c.args.turn.now.g es) c.as_slice.ensures.value (c.in_ok-run.ensures.rises c.if-run.true))

pub run_of-requires-2 : goal.run_of-requires-2
run_of-requires-2 c =
    let planes = c.args.turn.now.table.now.planes in
    let order = rw c.as_slice-2.ensures.value at c.in_ok-entries.ensures in
    record {
      es = rw c.as_slice-3.ensures.value (order_within planes c.args.turn.now.g (length planes) c.args.es.items c.in_ok-entries.entries.items order
          (λ e h. All-contains (λ (e : Entry). e.plane < length planes) c.args.es.items e c.requires.es h));
    }
