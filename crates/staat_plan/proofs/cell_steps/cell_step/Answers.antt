use Rattle.std.proofs.Common.{◌++◌, List, All, length, map, subst, sym}
use Rattle.std.specs.Prelude.{None, Some}
use Rattle.staat_model.specs.{Outcomes.try_cell, declared.tree.Kind.TheVariants.{Edge, Point}}
use Rattle.staat_pairs.specs.Tables.{AreTablePlanes}
use Rattle.staat_cells.specs.{Compositions.entry_of, Skeletons.opens_before, declared.cell.Cell.Cell}
use Rattle.staat_plan.specs.CellSteps.{IsTableCell}
use Rattle.staat_plan.proofs.{CellStepLemmas.{cells_in, skeleton_step}, StepLemmas.{none_then, some_then}}
use Rattle.staat_plan.proofs.cell_steps.cell_step.Goals as goal

pub returns-in-Some : goal.returns-in-Some
returns-in-Some c parts made =
    let t = c.args.table.now in
    let s = c.in_ok-skeleton.skeleton in
    let opens = opens_before s (length s.incidences.items) in
    let edges = map entry_of s.edges.items in
    let first = c.in-Some.first in
    skeleton_step parts t s made c.in_ok-skeleton.ensures (Some first)
    (some_then try_cell parts t.of (opens ++ edges) (map entry_of s.points.items) first
    (some_then try_cell parts t.of opens edges first (rw c.in-Some.is at c.in_ok-first.ensures parts made)))

pub step_among-requires-clause-cells : goal.step_among-requires-clause-cells
step_among-requires-clause-cells c =
    let whole = c.in_ok-skeleton.ensures in
    subst (λ (l : List Cell). All (IsTableCell c.args.table.now) (map entry_of l)) (sym c.edges.ensures)
    (cells_in c.args.table.now (subst AreTablePlanes c.planes-planes.ensures.is c.planes-planes.ensures.rules) Edge
    (map entry_of c.in_ok-skeleton.skeleton.edges.items) whole.edges)

pub returns-in-Some-step_among : goal.returns-in-Some-step_among
returns-in-Some-step_among c parts made =
    let t = c.args.table.now in
    let s = c.in_ok-skeleton.skeleton in
    let opens = opens_before s (length s.incidences.items) in
    let edges = map entry_of s.edges.items in
    let found = c.in-Some-step_among.found in
    skeleton_step parts t s made c.in_ok-skeleton.ensures (Some found)
    (some_then try_cell parts t.of (opens ++ edges) (map entry_of s.points.items) found
    (none_then try_cell parts t.of opens edges (Some found) (rw c.in_default.is at c.in_ok-first.ensures parts made)
    (rw c.edges.ensures at c.in-Some-step_among.ensures parts made)))

pub step_among-requires-2-clause-cells : goal.step_among-requires-2-clause-cells
step_among-requires-2-clause-cells c =
    let whole = c.in_ok-skeleton.ensures in
    subst (λ (l : List Cell). All (IsTableCell c.args.table.now) (map entry_of l)) (sym c.points.ensures)
    (cells_in c.args.table.now (subst AreTablePlanes c.planes-planes.ensures.is c.planes-planes.ensures.rules) Point
    (map entry_of c.in_ok-skeleton.skeleton.points.items) whole.points)

pub returns : goal.returns
returns c parts made =
    let t = c.args.table.now in
    let s = c.in_ok-skeleton.skeleton in
    let opens = opens_before s (length s.incidences.items) in
    let edges = map entry_of s.edges.items in
    skeleton_step parts t s made c.in_ok-skeleton.ensures c.step_among-2.result
    (none_then try_cell parts t.of (opens ++ edges) (map entry_of s.points.items) c.step_among-2.result
    (none_then try_cell parts t.of opens edges None (rw c.in_default.is at c.in_ok-first.ensures parts made)
    (rw c.edges.ensures at c.in_default-step_among.ensures parts made))
    (rw c.points.ensures at c.step_among-2.ensures parts made))
