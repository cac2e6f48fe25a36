use Rattle.std.proofs.Common.{◌≡◌, ◌∙◌, ◌++◌, ◌∷◌, [], ℕ, ap, arith, get_or, length, sym}
use Rattle.staat_cells.specs.declared.incidence.Incidence.{Incidence}
use Rattle.staat_cells.specs.Compositions.{begun_up_to, no_incidence}
use Rattle.staat_cells.proofs.Composing.{told_more, told_none, told_same}
use Rattle.staat_cells.proofs.compose.begun.Goals as goal
use Rattle.staat_cells.proofs.compose.begun.Goals.{then-begins_cell+in_ok-push, else-begins_cell}

pub loop-i-init : goal.loop-i-init
loop-i-init c = c.in_ok-found.ensures.items ∙ told_none _ c.args.incidences.now

pub loop-i-preserved : goal.loop-i-preserved
loop-i-preserved c =
    let incidences = c.args.incidences.now in
    let i = c.loop-i.i in
    let at : ℕ → Incidence = λ k. get_or incidences k no_incidence in
    elim c.if-begins_cell.branch [
      | then-begins_cell+in_ok-push w ↦
          ap (λ v. v.items) w.found-is ∙ w.in_ok-push.ensures.items ∙ (λ j. c.loop-i.invariant j ++ at i ∷ [])
          ∙ sym (told_more at incidences i (sym c.begins_cell.ensures ∙ w.if-begins_cell.true))
      | else-begins_cell w ↦
          ap (λ v. v.items) w.found-is ∙ c.loop-i.invariant
          ∙ sym (told_same at incidences i (sym c.begins_cell.ensures ∙ w.if-begins_cell.false))
    ]

pub returns : goal.returns
returns c =
    let all : c.loop-i.i ≡ length c.args.incidences.now = omega (arith, c.loop-i-test.false, c.loop-i.auto.i-end) in
    c.loop-i.invariant ∙ ap (begun_up_to c.args.incidences.now) all
