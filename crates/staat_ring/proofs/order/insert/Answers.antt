use Rattle.std.proofs.Common.{◌∙◌, ◌-◌, ap, arith, inl, subst, List}
use Rattle.std.proofs.lemmas.List.{get_or_read}
use Rattle.staat_ring.specs.declared.entry.Entry.{Entry}
use Rattle.staat_ring.specs.Order.{IsPlace, no_entry}
use Rattle.staat_ring.proofs.order.insert.Goals as goal
use Rattle.staat_ring.proofs.order.insert.Goals.{else-i-gt0-via-then-i-gt0+else-index-e, else-i-gt0-via-else-i-gt0}

pub returns : goal.returns
returns c =
    let old = c.args.es.now.items in
    let i = c.place_in-i.result in
    let at = subst (λ (es : List Entry). IsPlace c.args.turn.now.table.now.planes c.args.turn.now.g es c.args.e i) c.as_slice.ensures.value c.place_in-i.ensures in
    inl (
      i,
      at,
      (λ lt. elim c.else-i-gt0.branch [
        | else-i-gt0-via-then-i-gt0+else-index-e w ↦ (λ same. w.if-index-e.false (ap (λ (e : Entry). e.plane) (get_or_read old (i - 1) w.index.result.now (omega (arith, lt, at.within)) w.index.ensures no_entry) ∙ same))
        | else-i-gt0-via-else-i-gt0 w ↦ (let none = w.if-i-gt0.false in absurd (omega (arith, none, lt)))
      ]),
      c.in_ok-insert.ensures.items,
    )
