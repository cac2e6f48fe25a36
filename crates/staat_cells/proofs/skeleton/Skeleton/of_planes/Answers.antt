use Rattle.std.proofs.Common.{◌∙◌, All, List, ap, length, map, subst, sym}
use Rattle.staat_vec.specs.Lists.{Lists}
use Rattle.staat_vec.specs.declared.vector.TheConstants.{EDGE}
use Rattle.staat_vec.specs.Vectors.{IsWithin}
use Rattle.staat_model.specs.declared.tree.Kind.TheVariants.{Edge, Open, Point}
use Rattle.staat_model.specs.Cells.{AreCellsOf}
use Rattle.staat_cells.specs.declared.cell.Cell.{Cell}
use Rattle.staat_cells.specs.declared.incidence.Incidence.{Incidence}
use Rattle.staat_cells.specs.declared.skeleton.Skeleton.{Skeleton}
use Rattle.staat_cells.specs.Compositions.{HaveEqualLengths, HavePairs, begun_up_to, composed_up_to, entry_of}
use Rattle.staat_cells.specs.Packing.{incidence_cmp}
use Rattle.staat_cells.specs.Stages.{HaveSigns, IsIncidence}
use Rattle.staat_cells.proofs.MadeUpCells.{edges_made_up}
use Rattle.staat_cells.proofs.WholeLists.{kind_listed, kind_signs, lower_pairs, skeleton_is, equal_lengths}
use Rattle.staat_cells.proofs.WholeLists.{points_small}
use Rattle.staat_cells.proofs.skeleton.Skeleton.of_planes.Goals as goal

pub edge_incidences-requires-clause-points : goal.edge_incidences-requires-clause-points
edge_incidences-requires-clause-points c =
    subst (λ (l : List Cell). AreCellsOf c.args.planes.now Point (map entry_of l)) (sym c.deref.ensures.value)
    c.in_ok-points.ensures.points

pub edge_incidences-requires-clause-own : goal.edge_incidences-requires-clause-own
edge_incidences-requires-clause-own c =
    subst (λ (l : List Incidence). HaveSigns (map entry_of c.deref.result.now) l) (sym c.deref-2.ensures.value)
    (subst (λ (l : List Cell). HaveSigns (map entry_of l) c.in_ok-points.own.items) (sym c.deref.ensures.value)
    c.in_ok-points.ensures.signs)

pub composed_cells-requires-clause-pairs : goal.composed_cells-requires-clause-pairs
composed_cells-requires-clause-pairs c =
    let planes = c.args.planes.now in
    let points = c.in_ok-points.points.items in
    let ends = c.in_ok-ends.ends.items in
    let lists = subst (λ (l : List Cell). Lists incidence_cmp (IsIncidence planes Edge (map entry_of l)) ends)
    c.deref.ensures.value c.in_ok-ends.ensures in
    let pairs = lower_pairs planes c.requires.planes c.requires.few Edge points ends
    (edges_made_up planes c.requires.planes (map entry_of points) c.in_ok-points.ensures.points) lists in
    subst (λ (l : List Incidence). HavePairs l (length c.deref-3.result.now)) (sym c.deref-4.ensures.value)
    (subst (λ (l : List Cell). HavePairs ends (length l)) (sym c.deref-3.ensures.value) pairs)

pub composed_cells-requires-clause-size : goal.composed_cells-requires-clause-size
composed_cells-requires-clause-size c =
    subst (All (λ (x : Cell). IsWithin EDGE x.d)) (sym c.deref-3.ensures.value)
    (points_small c.args.planes.now c.requires.planes c.in_ok-points.points.items c.in_ok-points.ensures.points)

pub composed_cells-requires-clause-signs : goal.composed_cells-requires-clause-signs
composed_cells-requires-clause-signs c =
    subst HaveEqualLengths (sym c.deref-3.ensures.value)
    (equal_lengths c.args.planes.now c.requires.planes Point c.in_ok-points.points.items c.in_ok-points.ensures.points)

pub open_incidences-requires : goal.open_incidences-requires
open_incidences-requires c =
    let planes = c.args.planes.now in
    let points = c.in_ok-points.points.items in
    let ends = c.in_ok-ends.ends.items in
    let edges = c.deref-6.result.now in
    let lists = subst (λ (l : List Cell). Lists incidence_cmp (IsIncidence planes Edge (map entry_of l)) ends)
    c.deref.ensures.value c.in_ok-ends.ensures in
    let made = ap (map entry_of) c.deref-6.ensures.value ∙ c.in_ok-edges.ensures ∙ (λ i.
    let l = c.deref-4.ensures.value i in composed_up_to Edge (map entry_of (c.deref-3.ensures.value i)) l (length l)) in
    let own = c.deref-7.ensures.value ∙ c.in_ok-own.ensures
    ∙ ap (λ (l : List Incidence). begun_up_to l (length l)) c.deref-5.ensures.value in
    let made_up = edges_made_up planes c.requires.planes (map entry_of points) c.in_ok-points.ensures.points in
    record {
      planes = c.requires.planes;
      few = c.requires.few;
      edges = kind_listed planes c.requires.planes c.requires.few Edge points ends made_up lists edges made;
      own = subst (HaveSigns (map entry_of edges)) (sym own)
          (kind_signs planes c.requires.planes c.requires.few Edge points ends made_up lists edges made);
    }

pub returns : goal.returns
returns c =
    let planes = c.args.planes.now in
    let points = c.in_ok-points.points.items in
    let ends = c.in_ok-ends.ends.items in
    let lists = subst (λ (l : List Cell). Lists incidence_cmp (IsIncidence planes Edge (map entry_of l)) ends)
    c.deref.ensures.value c.in_ok-ends.ensures in
    let made = c.in_ok-edges.ensures ∙ (λ i. let l = c.deref-4.ensures.value i in
    composed_up_to Edge (map entry_of (c.deref-3.ensures.value i)) l (length l)) in
    let skeleton : Skeleton = record { points = c.in_ok-points.points; edges = c.in_ok-edges.edges; incidences = c.in_ok-incidences.incidences } in
    skeleton_is planes c.requires.planes c.requires.few skeleton c.in_ok-points.ensures.points
    (kind_listed planes c.requires.planes c.requires.few Edge points ends
    (edges_made_up planes c.requires.planes (map entry_of points) c.in_ok-points.ensures.points) lists
    c.in_ok-edges.edges.items made)
    (subst (λ (l : List Cell). Lists incidence_cmp (IsIncidence planes Open (map entry_of l)) c.in_ok-incidences.incidences.items)
    c.deref-6.ensures.value c.in_ok-incidences.ensures)
