use Rattle.std.proofs.Common.{◌∙◌, ◌<◌, sym, ap, subst, length, map, List, All, Contains}
use Rattle.staat_vec.specs.Lists.{Lists}
use Rattle.staat_vec.specs.Vectors.{vector_cmp}
use Rattle.staat_model.specs.Planes.{vertices}
use Rattle.staat_cells.specs.declared.cell.Cell.{Cell}
use Rattle.staat_cells.specs.declared.incidence.Incidence.{Incidence}
use Rattle.staat_cells.specs.Compositions.{entry_of}
use Rattle.staat_cells.specs.Stages.{IsOwnIncidence, cell_at, point_entry}
use Rattle.staat_cells.specs.Packing.{incidence_cmp}
use Rattle.staat_cells.proofs.WholeLists.{incidences_listed, points_listed, points_signs}
use Rattle.staat_cells.proofs.TableRules.{listed_small, planes_apart, vertices_listed}
use Rattle.staat_cells.proofs.points.points_of.Goals as goal

pub directions-requires : goal.directions-requires
directions-requires c = planes_apart c.args.planes.now c.requires.planes

pub points_at-requires : goal.points_at-requires
points_at-requires c =
    listed_small c.args.planes.now c.deref.result.now c.requires.planes
    (subst (Lists vector_cmp (Contains (vertices c.args.planes.now))) (sym c.deref.ensures.value)
    (vertices_listed c.args.planes.now c.in_ok-directions.field-0.items c.in_ok-directions.ensures))

pub cells_of-requires : goal.cells_of-requires
cells_of-requires c =
    let sorted = c.in_ok-incidences.incidences.items in
    let lists = subst (λ (l : List Cell). Lists incidence_cmp (IsOwnIncidence (map entry_of l)) sorted) c.deref-2.ensures.value
    c.in_ok-incidences.ensures in
    subst (λ (l : List Incidence). All (λ x. x.of < length c.deref-3.result.now) l) (sym c.deref-4.ensures.value)
    (subst (λ (l : List Cell). All (λ (x : Incidence). x.of < length l) sorted) (sym c.deref-3.ensures.value)
    (incidences_listed c.args.planes.now c.requires.planes c.requires.few c.in_ok-raw.raw.items sorted lists))

pub returns : goal.returns
returns c =
    let raw = c.in_ok-raw.raw.items in
    let sorted = c.in_ok-incidences.incidences.items in
    let lists = subst (λ (l : List Cell). Lists incidence_cmp (IsOwnIncidence (map entry_of l)) sorted) c.deref-2.ensures.value
    c.in_ok-incidences.ensures in
    let made = c.in_ok-points.ensures
    ∙ (λ i. map (λ (x : Incidence). cell_at (map entry_of (c.deref-3.ensures.value i)) x.of) (c.deref-4.ensures.value i)) in
    record {
      points = points_listed c.args.planes.now c.requires.planes c.requires.few raw sorted lists c.in_ok-points.points.items
          c.in_ok-directions.field-0.items (c.in_ok-raw.ensures ∙ ap (map (point_entry c.args.planes.now)) c.deref.ensures.value)
          (vertices_listed c.args.planes.now c.in_ok-directions.field-0.items c.in_ok-directions.ensures) made;
      signs = points_signs c.args.planes.now c.requires.planes c.requires.few raw sorted lists c.in_ok-points.points.items made;
    }
