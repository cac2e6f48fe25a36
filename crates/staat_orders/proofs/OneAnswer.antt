-- What the work on an order or on a beginning finds is one thing.
use Rattle.std.proofs.Common.{◌≡◌, List, ap, sym, ◌∙◌}
use Rattle.std.specs.Prelude.{Ok}
use Rattle.staat_model.specs.declared.assembly.Part.{Part}
use Rattle.staat_fault.specs.declared.fault.Fault.TheVariants.{ReadFault}
use Rattle.staat_input.specs.declared.answer.Answer.{Answer}
use Rattle.staat_input.specs.Work.{Files, Found}
use Rattle.staat_input.specs.Assembling.{IsSoundOf}
use Rattle.staat_input.specs.Counting.{AreCounted, all_parts}
use Rattle.staat_linear.specs.declared.order.Order.{Order}
use Rattle.staat_linear.proofs.OneOrder.{IsChosen-unique}
use Rattle.staat_orders.specs.Ordering.{IsOrdered, order_answer, LinearWork}
use Rattle.staat_local.proofs.Beginning.{one_found_lemma}
use Rattle.staat_orders.specs.Beginning.{IsBegun, local_answer, LocalWork}
use Rattle.staat_input.proofs.OneFinding.{FindsOne, then_one, given_not_fault}
use Rattle.staat_input.proofs.OneInput.{sound_one, counted_one}
use Rattle.staat_words.specs.declared.request.LinearRequest.{LinearRequest}
use Rattle.staat_words.specs.declared.request.LocalRequest.{LocalRequest}

ordered_one : (files : Files) (parts : List Part) → FindsOne files (IsOrdered parts)
ordered_one files parts = record { one = λ f g a b sf sg. one f g a b; held = λ name f at lacks step settled. given_not_fault _ (ReadFault name) (sym at.is) }
  where
    one : (f g : Found Answer) → IsOrdered parts f → IsOrdered parts g → f ≡ g
    one f g a b = a.is ∙ ap (λ (o : Order). Ok (order_answer o)) (IsChosen-unique parts a.chosen b.chosen) ∙ sym b.is

begun_one : (files : Files) (parts : List Part) → FindsOne files (IsBegun parts)
begun_one files parts = record {
  one = λ f g a b sf sg. a.is ∙ ap (λ begins. Ok (local_answer (all_parts parts) begins)) (one_found_lemma parts (all_parts parts) a.begins b.begins a.is_found b.is_found) ∙ sym b.is;
  held = λ name f at lacks step settled. given_not_fault _ (ReadFault name) (sym at.is);
}

pub linear_one : (request : LinearRequest) (files : Files) → FindsOne files (LinearWork request files)
linear_one request files = then_one files (IsSoundOf files request.asked) _ (sound_one files request.asked)
    (λ parts. then_one files (AreCounted parts request.planes) _ (counted_one files parts request.planes) (λ planes. ordered_one files parts))

pub local_one : (request : LocalRequest) (files : Files) → FindsOne files (LocalWork request files)
local_one request files = then_one files (IsSoundOf files request.asked) _ (sound_one files request.asked)
    (λ parts. then_one files (AreCounted parts request.planes) _ (counted_one files parts request.planes) (λ planes. begun_one files parts))
