use Rattle.std.proofs.Common.{◌≡◌, refl, ◌<◌, ap, arith, length, map, subst, sym, Contains}
use Rattle.std.proofs.lemmas.List.{length-map}
use Rattle.staat_vec.specs.Lists.{Lists}
use Rattle.staat_model.specs.declared.tree.Kind.TheVariants.{Edge, Point}
use Rattle.staat_model.specs.Cells.{CellEntry, signs_of}
use Rattle.staat_cells.specs.declared.incidence.Incidence.{Incidence}
use Rattle.staat_model.specs.Planes.{vertices}
use Rattle.staat_cells.specs.Compositions.{entry_of}
use Rattle.staat_cells.specs.Packing.{incidence_cmp}
use Rattle.staat_cells.specs.Stages.{GrewByAll, IsEdgeIncidence, IsIncidence}
use Rattle.staat_cells.proofs.MadeUpCells.{point_in}
use Rattle.staat_cells.proofs.Growing.{grown_more}
use Rattle.staat_cells.proofs.OppositeCells.{all_listed}
use Rattle.staat_cells.proofs.ListedIncidences.{IsEdgeAt, edges_all, entry_is, grew_none, listed_is, own_at, own_place}
use Rattle.staat_cells.proofs.edge_incidences.edge_incidences.Goals as goal

pub loop-k-init : goal.loop-k-init
loop-k-init c =
    grew_none (IsEdgeAt c.args.planes.now (map entry_of c.args.points.now)) c.in_ok-incidences.incidences.items c.in_ok-incidences.ensures.items

pub bounds-own-k : goal.bounds-own-k
bounds-own-k c = own_place c.args.points.now c.args.own.now c.requires.own c.loop-k.k (omega (arith, c.loop-k-test.true))

pub push_edge_incidences-requires-clause-vertex : goal.push_edge_incidences-requires-clause-vertex
push_edge_incidences-requires-clause-vertex c =
    let points = c.args.points.now in
    let k = c.loop-k.k in
    let lt : k < length points = omega (arith, c.loop-k-test.true) in
    subst (λ (e : CellEntry). Contains (vertices c.args.planes.now) e.d)
    (entry_is points k c.index-points-k.result lt c.index-points-k.is)
    (point_in c.args.planes.now c.requires.planes (map entry_of points) c.requires.points k
    (listed_is points k lt)).0

pub push_edge_incidences-requires-clause-signs : goal.push_edge_incidences-requires-clause-signs
push_edge_incidences-requires-clause-signs c =
    let points = c.args.points.now in
    let k = c.loop-k.k in
    let lt : k < length points = omega (arith, c.loop-k-test.true) in
    subst (λ (e : CellEntry). e.signs ≡ signs_of c.args.planes.now e.d)
    (entry_is points k c.index-points-k.result lt c.index-points-k.is)
    (sym (point_in c.args.planes.now c.requires.planes (map entry_of points) c.requires.points k
    (listed_is points k lt)).1)

pub push_edge_incidences-requires-clause-own : goal.push_edge_incidences-requires-clause-own
push_edge_incidences-requires-clause-own c =
    own_at c.args.points.now c.args.own.now c.requires.own c.loop-k.k c.index-points-k.result (omega (arith, c.loop-k-test.true))
    c.index-points-k.is

pub loop-k-preserved : goal.loop-k-preserved
loop-k-preserved c =
    let planes = c.args.planes.now in
    let k = c.loop-k.k in
    let grew = subst (λ (e : CellEntry). GrewByAll (IsEdgeIncidence planes e.d k) c.loop-k.incidences.items
    c.push_edge_incidences.new.incidences.items)
    (sym (entry_is c.args.points.now k c.index-points-k.result (omega (arith, c.loop-k-test.true)) c.index-points-k.is))
    c.in_ok-push_edge_incidences.ensures in
    λ x. grown_more (IsEdgeAt planes (map entry_of c.args.points.now) x) k (c.loop-k.invariant x) (grew x)

pub returns : goal.returns
returns c =
    let planes = c.args.planes.now in
    let points = c.args.points.now in
    let cells = map entry_of points in
    subst (Lists incidence_cmp (IsIncidence planes Edge cells)) (sym c.in_ok-push_mirrors.ensures)
    (all_listed planes c.requires.planes Point cells c.requires.points Edge c.requires.few (IsEdgeAt planes cells)
    c.loop-k.incidences.items c.lesser_in_order-found.result.items c.loop-k.k (length points) c.in_ok-sum.sum
    (sym (length-map points entry_of)) (omega (arith, c.loop-k-test.false, c.loop-k.auto.k-end)) c.in_ok-sum.ensures
    c.loop-k.invariant (λ x k e. ap (λ (y : Incidence). y.of) e.is)
    (λ x. edges_all cells (length cells) refl x planes
    (λ k lt. sym (point_in planes c.requires.planes cells c.requires.points k lt).1))
    c.lesser_in_order-found.ensures)
