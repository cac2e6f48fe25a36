use Rattle.std.proofs.Common.{◌≡◌, ◌∙◌, ◌++◌, ◌∷◌, [], ap, arith, length, map, subst, sym}
use Rattle.std.proofs.lemmas.List.{map-append}
use Rattle.staat_cells.specs.Compositions.{composed_at, composed_up_to, entry_of}
use Rattle.staat_cells.specs.Skeletons.{IsFoundAt}
use Rattle.staat_cells.proofs.Composing.{told_more, told_none, told_same}
use Rattle.staat_cells.proofs.compose.composed_cells.Goals as goal
use Rattle.staat_cells.proofs.compose.composed_cells.Goals.{in-Some+in_ok-push, in_default}

pub loop-i-init : goal.loop-i-init
loop-i-init c = ap (map entry_of) c.in_ok-cells.ensures.items ∙ told_none _ c.args.incidences.now

pub loop-i-preserved : goal.loop-i-preserved
loop-i-preserved c =
    let lower = map entry_of c.args.lower.now in
    let incidences = c.args.incidences.now in
    let i = c.loop-i.i in
    let at = composed_at c.args.kind lower incidences in
    let is_found = IsFoundAt c.args.kind lower incidences i in
    elim c.match-branch-3.branch [
      | in-Some+in_ok-push w ↦
          let found = subst is_found w.in-Some.is c.in_ok-cell.ensures in
          ap (λ v. map entry_of v.items) w.cells-is ∙ ap (map entry_of) w.in_ok-push.ensures.items
          ∙ map-append entry_of c.loop-i.cells.items (w.in-Some.cell ∷ []) ∙ (λ j. c.loop-i.invariant j ++ found.is j ∷ [])
          ∙ sym (told_more at incidences i found.begins)
      | in_default w ↦
          ap (λ v. map entry_of v.items) w.cells-is ∙ c.loop-i.invariant
          ∙ sym (told_same at incidences i (subst is_found w.in_default.is c.in_ok-cell.ensures))
    ]

pub returns : goal.returns
returns c =
    let all : c.loop-i.i ≡ length c.args.incidences.now = omega (arith, c.loop-i-test.false, c.loop-i.auto.i-end) in
    c.loop-i.invariant ∙ ap (composed_up_to c.args.kind (map entry_of c.args.lower.now) c.args.incidences.now) all
