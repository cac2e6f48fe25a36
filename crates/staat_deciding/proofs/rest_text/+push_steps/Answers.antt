use Rattle.std.proofs.Common.{◌≡◌, ◌<◌, ◌∙◌, ◌++◌, ap, arith, subst, sym}
use Rattle.std.proofs.lemmas.Result.{IfOk-weaker}
use Rattle.staat_holds.specs.Partials.{PartialPlan, parted, partial_of}
use Rattle.staat_deciding.specs.RestTexts.{HasSmallParts, step_lines, steps_in}
use Rattle.staat_deciding.proofs.PartialLemmas.{moved_fewer, moved_small, rest_fewer, rest_small}
use Rattle.staat_deciding.proofs.RestLines.{steps_written}
use Rattle.staat_deciding.proofs.rest_text.+push_steps.Goals as goal

pub step_line-requires-clause-moved : goal.step_line-requires-clause-moved
step_line-requires-clause-moved t c =
    let is : partial_of c.args.tree.now ≡ parted c.in-Split.d (partial_of c.in-Split.moved.value) (partial_of c.in-Split.rest.value) = ap partial_of c.in-Split.is in
    subst HasSmallParts (sym (ap partial_of c.deref.ensures)) (moved_small (partial_of c.args.tree.now) c.in-Split.d (partial_of c.in-Split.moved.value) (partial_of c.in-Split.rest.value) is c.requires)

pub step_line-requires-clause-rest : goal.step_line-requires-clause-rest
step_line-requires-clause-rest t c =
    let is : partial_of c.args.tree.now ≡ parted c.in-Split.d (partial_of c.in-Split.moved.value) (partial_of c.in-Split.rest.value) = ap partial_of c.in-Split.is in
    subst HasSmallParts (sym (ap partial_of c.deref-in-Split.ensures)) (rest_small (partial_of c.args.tree.now) c.in-Split.d (partial_of c.in-Split.moved.value) (partial_of c.in-Split.rest.value) is c.requires)

pub push_steps-requires : goal.push_steps-requires
push_steps-requires t c =
    let is : partial_of c.args.tree.now ≡ parted c.in-Split.d (partial_of c.in-Split.moved.value) (partial_of c.in-Split.rest.value) = ap partial_of c.in-Split.is in
    let e : partial_of c.deref-in-Split-2.result.now ≡ partial_of c.in-Split.moved.value = ap partial_of c.deref-in-Split-2.ensures in
    let less : steps_in (partial_of c.deref-in-Split-2.result.now) < steps_in (partial_of c.args.tree.now) = subst (λ (p : PartialPlan). steps_in p < steps_in (partial_of c.args.tree.now)) (sym e) (moved_fewer (partial_of c.args.tree.now) c.in-Split.d (partial_of c.in-Split.moved.value) (partial_of c.in-Split.rest.value) is) in
    (omega (arith, less, c.decreases), subst HasSmallParts (sym e) (moved_small (partial_of c.args.tree.now) c.in-Split.d (partial_of c.in-Split.moved.value) (partial_of c.in-Split.rest.value) is c.requires))

pub push_steps-requires-in-Split : goal.push_steps-requires-in-Split
push_steps-requires-in-Split t c =
    let is : partial_of c.args.tree.now ≡ parted c.in-Split.d (partial_of c.in-Split.moved.value) (partial_of c.in-Split.rest.value) = ap partial_of c.in-Split.is in
    let e : partial_of c.deref-in-Split-3.result.now ≡ partial_of c.in-Split.rest.value = ap partial_of c.deref-in-Split-3.ensures in
    let less : steps_in (partial_of c.deref-in-Split-3.result.now) < steps_in (partial_of c.args.tree.now) = subst (λ (p : PartialPlan). steps_in p < steps_in (partial_of c.args.tree.now)) (sym e) (rest_fewer (partial_of c.args.tree.now) c.in-Split.d (partial_of c.in-Split.moved.value) (partial_of c.in-Split.rest.value) is) in
    (omega (arith, less, c.decreases), subst HasSmallParts (sym e) (rest_small (partial_of c.args.tree.now) c.in-Split.d (partial_of c.in-Split.moved.value) (partial_of c.in-Split.rest.value) is c.requires))

pub returns-in_ok-push_steps-in-Split : goal.returns-in_ok-push_steps-in-Split
returns-in_ok-push_steps-in-Split t c =
    IfOk-weaker c.push_steps-in-Split.result _ (λ _. c.push_steps-in-Split.new.text.items ≡ c.args.text.now.items ++ step_lines (partial_of c.args.tree.now))
    (λ _ last. steps_written (partial_of c.args.tree.now) (partial_of c.in-Split.moved.value) (partial_of c.in-Split.rest.value)
    (partial_of c.deref.result.now) (partial_of c.deref-in-Split.result.now) (partial_of c.deref-in-Split-2.result.now) (partial_of c.deref-in-Split-3.result.now)
    c.in-Split.d c.args.text.now.items _ c.push_steps.new.text.items c.push_steps-in-Split.new.text.items c.in_ok-line-in-Split.line.items (ap partial_of c.in-Split.is)
    (ap partial_of c.deref.ensures) (ap partial_of c.deref-in-Split.ensures) (ap partial_of c.deref-in-Split-2.ensures) (ap partial_of c.deref-in-Split-3.ensures)
    c.in_ok-line-in-Split.ensures (c.in_ok-extend_from_slice-in-Split.ensures.items ∙ ap (λ t. c.args.text.now.items ++ t) c.as_slice.ensures.value) c.in_ok-push_steps-in-Split.ensures last)
    c.push_steps-in-Split.ensures
