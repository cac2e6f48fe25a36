use Rattle.std.proofs.Common.{◌<◌, List, ap, length, subst, sym, ◌∙◌}
use Rattle.std.specs.Prelude.{slice_get}
use Rattle.std.proofs.lemmas.Option.{slice_get-get_or}
use Rattle.staat_ring.specs.declared.entry.Entry.{Entry}
use Rattle.staat_ring.specs.Order.{no_entry}
use Rattle.staat_ring.proofs.WholeCircles.{some}
use Rattle.staat_ring.proofs.circle.Circle.first_entry.Goals as goal

pub bounds-stop-0 : goal.bounds-stop-0
bounds-stop-0 c = subst (λ (es : List Entry). 0 < length es) (sym c.stop.ensures) (some c.args.table.now.planes c.set-set.ensures.rules.planes c.args.self.now c.requires.circle c.args.k c.requires.place)

pub returns : goal.returns
returns c =
    let lt = some c.args.table.now.planes c.set-set.ensures.rules.planes c.args.self.now c.requires.circle c.args.k c.requires.place in
    ap (λ (es : List Entry). slice_get es 0) (sym c.stop.ensures) ∙ slice_get-get_or c.stop.result.now 0 no_entry (subst (λ (es : List Entry). 0 < length es) (sym c.stop.ensures) lt)
