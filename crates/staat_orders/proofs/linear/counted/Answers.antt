use Rattle.std.proofs.Common.{◌≡◌, Err, List, Ok, Result, ap, subst, sym}
use Rattle.std.specs.Prelude.{IfErr, IfOk}
use Rattle.staat_fault.specs.declared.fault.Fault.{Fault}
use Rattle.staat_fault.specs.declared.fault.Fault.TheVariants.{OutOfMemory}
use Rattle.staat_linear.specs.Orders.{IsChosen}
use Rattle.staat_linear.specs.declared.order.Order.{Order}
use Rattle.staat_model.specs.declared.assembly.Part.{Part}
use Rattle.staat_input.specs.declared.answer.Answer.{Answer}
use Rattle.staat_input.specs.Counting.{AreCounted, all_parts}
use Rattle.staat_input.specs.Causes.{HasCause}
use Rattle.staat_input.specs.Work.{Follows}
use Rattle.staat_input.proofs.CountingLemmas.{counted_few}
use Rattle.staat_input.proofs.AnswerLemmas.{fault_out, then_out}
use Rattle.staat_orders.specs.Ordering.{IsOrdered, order_answer}
use Rattle.staat_orders.proofs.linear.counted.Goals as goal

-- the chosen order, written, or want of memory
ordered : (parts : List Part) (order : Order) (r : Result Answer Fault) → IsChosen parts (all_parts parts) order
    → IfOk r (λ a. a ≡ order_answer order) → IfErr r (λ f. f ≡ OutOfMemory) → Follows (IsOrdered parts) r
ordered parts order (Ok a) chosen is memory = record { order = order; chosen = chosen; is = ap Ok is }
ordered parts order (Err f) chosen is memory = subst (λ g. Follows (IsOrdered parts) (Err g)) (sym memory) tt

-- no other fault than want of memory
caused : (P : Fault → Type 0) (r : Result Answer Fault) → P OutOfMemory → IfErr r (λ f. f ≡ OutOfMemory) → IfErr r P
caused P (Ok a) h memory = tt
caused P (Err f) h memory = subst P (sym memory) h

pub returns-in_err-order : goal.returns-in_err-order
returns-in_err-order c =
    fault_out (AreCounted c.args.sound.now c.args.planes) (λ planes. IsOrdered c.args.sound.now) c.from_residual.result
    c.in_err-order.field-0.0 c.in_err-order.ensures.refused c.in_err-order.ensures.cause c.from_residual.ensures.1

pub returns : goal.returns
returns c =
    let parts = c.args.sound.now in
    let table = c.in_ok-order.ensures.few in
    let found = c.answer_of.result in
    let memory = c.answer_of.ensures.memory in
    then_out (AreCounted parts c.args.planes) (λ planes. IsOrdered parts) found table.0.planes
    (counted_few parts c.args.planes table.0 table.1) (record {
      status = c.answer_of.ensures.status;
      found = ordered parts c.in_ok-order.order found c.in_ok-order.ensures.chosen c.answer_of.ensures.is memory;
      cause = λ shelf. caused (HasCause shelf) found tt memory;
    })
