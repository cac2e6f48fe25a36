use Rattle.std.proofs.{Common.{inl, inr, arith, length, subst, sym}, lemmas.List.Elements.All-nil}
use Rattle.std.specs.Prelude.{None}
use Rattle.staat_vec.proofs.Naturals.{lt_one_more_cases}
use Rattle.staat_model.specs.{Cells.CellEntry, Outcomes.{Serves, try_cell}}
use Rattle.staat_cells.specs.Skeletons.{opens_at}
use Rattle.staat_plan.specs.{CellSteps.IsStepAmong, Planning.IsFirstOf}
use Rattle.staat_plan.proofs.CellStepLemmas.{at_all_places, first_open_at, no_open, one_open, open_in}
use Rattle.staat_plan.proofs.cell_steps.open_step.Goals.{in-Some+in_default-step_in, in_default}
use Rattle.staat_plan.proofs.cell_steps.open_step.Goals as goal

pub step_in-requires-clause-cell : goal.step_in-requires-clause-cell
step_in-requires-clause-cell c =
    let end = c.places-i-end.ensures in
    let lt = c.loop-i-test.true in
    open_in c.args.table.now c.args.skeleton.now c.loop-i.i c.in-Some.cell c.requires.planes c.requires.skeleton
    (omega (arith, lt, end)) (rw c.in-Some.is at c.in_ok-cell.ensures)

pub returns-in-Some-step_in : goal.returns-in-Some-step_in
returns-in-Some-step_in c parts made =
    let t = c.args.table.now in
    let s = c.args.skeleton.now in
    let end = c.places-i-end.ensures in
    let lt = c.loop-i-test.true in
    let found = c.in-Some-step_in.found in
    first_open_at parts t.of s (length s.incidences.items) c.loop-i.i found (omega (arith, lt, end))
    (λ j less. c.loop-i.invariant j less parts made) (subst (λ l. IsFirstOf try_cell parts t.of l found)
    (sym (one_open s c.loop-i.i c.in-Some.cell (rw c.in-Some.is at c.in_ok-cell.ensures)))
    (c.in-Some-step_in.ensures parts made))

held : (c : goal.Joined-branch-2) → IsStepAmong c.args.table.now (opens_at c.args.skeleton.now c.loop-i.i) None
held c =
    let t = c.args.table.now in
    let s = c.args.skeleton.now in
    elim c.match-branch-2.branch [
      | in-Some+in_default-step_in w ↦ subst (λ l. IsStepAmong t l None)
          (sym (one_open s c.loop-i.i w.in-Some.cell (rw w.in-Some.is at c.in_ok-cell.ensures))) w.in_default-step_in.ensures
      | in_default w ↦ subst (λ l. IsStepAmong t l None) (sym (no_open s c.loop-i.i (rw w.in_default.is at c.in_ok-cell.ensures)))
          (λ parts made. All-nil (λ (x : CellEntry). Serves parts t.of x.d → ⊥))
    ]

pub loop-i-preserved : goal.loop-i-preserved
loop-i-preserved c j less = elim (lt_one_more_cases j c.loop-i.i less) [
  | inl before ↦ c.loop-i.invariant j before
  | inr here ↦ subst (λ k. IsStepAmong c.args.table.now (opens_at c.args.skeleton.now k) None) (sym here) (held c)
]

pub returns : goal.returns
returns c parts made =
    let s = c.args.skeleton.now in
    let le = c.loop-i-test.false in
    let end = c.places-i-end.ensures in
    at_all_places s (λ (x : CellEntry). Serves parts c.args.table.now.of x.d → ⊥) (length s.incidences.items)
    (λ j less. c.loop-i.invariant j (omega (arith, less, le, end)) parts made)
