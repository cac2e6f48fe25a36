use Rattle.std.proofs.Common.{◌↔◌, Any, List, subst, sym}
use Rattle.staat_cells.proofs.Growing.{through}
use Rattle.std.proofs.lemmas.Result.{on_ok_weaker}
use Rattle.staat_vec.specs.declared.vector.Sign.{Sign}
use Rattle.staat_cells.specs.CellGraphs.{IsAheadBy}
use Rattle.staat_cells.specs.declared.half_spaces.HalfSpace.{HalfSpace}
use Rattle.staat_cells.specs.HalfSpaces.{AreInside}
use Rattle.staat_cells.proofs.PieceCones.{pair_added}
use Rattle.staat_cells.proofs.part_arcs.push_parts.Goals as goal

pub returns-in_ok-wide : goal.returns-in_ok-wide
returns-in_ok-wide c =
    let t = c.args.table.now in
    let a = c.args.a in
    let b = c.args.b in
    let ahead = subst (λ (l : List (List HalfSpace)). (signs : List Sign) → Any (AreInside signs) l
    ↔ IsAheadBy t signs a b)
    (sym c.deref.ensures.value) c.in_ok-cones_of.ensures in
    on_ok_weaker c.add_cones.result (λ added.
    pair_added t a b c.deref-then-has-2.result.now c.args.batches.now.items c.add_cones.new.batches.items
    (subst (λ (l : List (List HalfSpace)). (signs : List Sign) → Any (AreInside signs) l ↔ IsAheadBy t signs a b)
    (sym c.deref-then-has-2.ensures.value) (λ signs. through (c.in_ok-wide.ensures signs) (ahead signs))) added)
    c.add_cones.ensures
