use Rattle.std.proofs.Common.{◌<◌, ◌+◌, ap, arith, ◌∙◌, refl, drop}
use Rattle.staat_model.specs.declared.tree.Tree.{Tree}
use Rattle.staat_text.proofs.PlanLines.{split_written}
use Rattle.staat_model.specs.Plans.{parts_of, plan_of}
use Rattle.staat_text.specs.PlanTexts.{move_line, steps_of}
use Rattle.staat_text.proofs.PlanSteps.{moved_fewer, moved_leaves, rest_fewer, rest_leaves, steps_small}
use Rattle.staat_text.proofs.plans.+push_moves.Goals as goal

pub push_move-requires-clause-moved : goal.push_move-requires-clause-moved
push_move-requires-clause-moved t c = moved_leaves _ _ _ _ (ap plan_of c.in-Split.is) _ (ap plan_of c.deref.ensures) c.requires

pub push_move-requires-clause-rest : goal.push_move-requires-clause-rest
push_move-requires-clause-rest t c = rest_leaves _ _ _ _ (ap plan_of c.in-Split.is) _ (ap plan_of c.deref-in-Split.ensures) c.requires

pub push_moves-requires : goal.push_moves-requires
push_moves-requires t c =
    let side = ap plan_of c.deref-in-Split-2.ensures in
    let less : steps_of (plan_of c.deref-in-Split-2.result.now) < steps_of (plan_of c.args.tree.now) = moved_fewer _ _ _ _ (ap plan_of c.in-Split.is) _ side in
    (omega (arith, less, c.decreases), moved_leaves _ _ _ _ (ap plan_of c.in-Split.is) _ side c.requires)

pub push_moves-requires-in-Split : goal.push_moves-requires-in-Split
push_moves-requires-in-Split t c =
    let side = ap plan_of c.deref-in-Split-3.ensures in
    let less : steps_of (plan_of c.deref-in-Split-3.result.now) < steps_of (plan_of c.args.tree.now) = rest_fewer _ _ _ _ (ap plan_of c.in-Split.is) _ side in
    (omega (arith, less, c.decreases), rest_leaves _ _ _ _ (ap plan_of c.in-Split.is) _ side c.requires)

pub steps_of-requires : goal.steps_of-requires
steps_of-requires t c = steps_small _ (moved_leaves _ _ _ _ (ap plan_of c.in-Split.is) _ (ap plan_of c.deref-in-Split-4.ensures) c.requires)

pub overflow_add-steps_of : goal.overflow_add-steps_of
overflow_add-steps_of t c =
    let small : steps_of (plan_of c.deref-in-Split-4.result.now) < 1024 = steps_small _ (moved_leaves _ _ _ _ (ap plan_of c.in-Split.is) _ (ap plan_of c.deref-in-Split-4.ensures) c.requires) in
    omega (arith, small, c.steps_of.ensures)

pub returns-in_ok-push_moves-in-Split : goal.returns-in_ok-push_moves-in-Split
returns-in_ok-push_moves-in-Split t c =
    split_written c.args.tree.now c.in-Split.d c.in-Split.moved.value c.in-Split.rest.value (ap plan_of c.in-Split.is) c.args.marks.now _ _ _ _ c.push_moves-in-Split.result
    (move_line (parts_of (plan_of c.deref.result.now)) c.in-Split.d (parts_of (plan_of c.deref-in-Split.result.now)) c.args.marks.now) c.deref.result.now c.deref-in-Split.result.now c.deref-in-Split-2.result.now c.deref-in-Split-3.result.now c.marks_from.result.now c.marks_from-in-Split.result.now
    c.deref.ensures c.deref-in-Split.ensures
    c.deref-in-Split-2.ensures c.deref-in-Split-3.ensures c.marks_from.ensures (c.marks_from-in-Split.ensures ∙ ap (λ n. drop n c.args.marks.now) (ap (λ n. 1 + n) (c.steps_of.ensures ∙ ap (λ (x : Tree). steps_of (plan_of x)) c.deref-in-Split-4.ensures)))
    refl c.in_ok-push_move-in-Split.ensures c.in_ok-push_moves-in-Split.ensures c.push_moves-in-Split.ensures
