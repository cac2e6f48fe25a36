use Rattle.std.proofs.Common.{◌≤◌, [], List, arith, subst, sym}
use Rattle.staat_cells.specs.declared.half_spaces.HalfSpace.{HalfSpace}
use Rattle.staat_cells.specs.CellGraphs.{AddsCones, IsPieceAhead}
use Rattle.staat_planes.proofs.Gaining.{adds_nothing}
use Rattle.staat_cells.proofs.Growing.{Below, grown_first, grown_more, grown_same, none_below}
use Rattle.staat_cells.proofs.PieceCones.{parts_are}
use Rattle.staat_cells.proofs.part_arcs.cones_of.Goals as goal

pub loop-i-init : goal.loop-i-init
loop-i-init c =
    subst (λ (l : List (List HalfSpace)). AddsCones (λ signs. Below (λ i. IsPieceAhead c.args.table.now c.args.a c.args.b i signs) 0) [] l)
    (sym c.new-cones.ensures.items)
    (λ signs. adds_nothing (none_below (λ i. IsPieceAhead c.args.table.now c.args.a c.args.b i signs)))

pub loop-i-preserved : goal.loop-i-preserved
loop-i-preserved c = λ signs. grown_more (λ i. IsPieceAhead c.args.table.now c.args.a c.args.b i signs) c.loop-i.i
    (c.loop-i.invariant signs) (c.in_ok-push_piece.ensures signs)

pub returns : goal.returns
returns c =
    let le = subst (λ n. n ≤ c.loop-i.i) c.pieces-i-end.ensures.is c.loop-i-test.false in
    λ signs. grown_first
    (grown_same (c.loop-i.invariant signs) (parts_are c.args.table.now c.args.a c.args.b c.loop-i.i signs le))
    (λ none. let lt = none.2 in omega (arith, lt))
