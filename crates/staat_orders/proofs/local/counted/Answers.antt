use Rattle.std.proofs.Common.{◌≡◌, ◌∙◌, Ok, ap, ap₂, subst}
use Rattle.staat_local.specs.Beginnings.{IsFoundIn}
use Rattle.staat_local.specs.LocalTexts.{local_text}
use Rattle.staat_model.specs.declared.set.PartSet.{PartSet}
use Rattle.staat_input.specs.Counting.{AreCounted, all_parts}
use Rattle.staat_input.specs.Work.{answer}
use Rattle.staat_input.proofs.AnswerLemmas.{fault_out, memory_out, then_out}
use Rattle.staat_orders.specs.Beginning.{IsBegun, local_status}
use Rattle.staat_orders.proofs.local.counted.Goals as goal

pub returns-in_err-table : goal.returns-in_err-table
returns-in_err-table c =
    fault_out (AreCounted c.args.sound.now c.args.planes) (λ planes. IsBegun c.args.sound.now) c.from_residual.result
    c.in_err-table.field-0.0 c.in_err-table.ensures.refused c.in_err-table.ensures.cause c.from_residual.ensures.1

pub returns-in_err-text : goal.returns-in_err-text
returns-in_err-text c = memory_out c.from_residual-in_err-text.ensures.1

pub returns : goal.returns
returns c =
    let parts = c.args.sound.now in
    let begins = c.beginning-found.result in
    let all : c.set-of.result ≡ all_parts parts = c.set-of.ensures.is ∙ c.in_ok-table.ensures.all in
    then_out (AreCounted parts c.args.planes) (λ planes. IsBegun parts) (Ok (answer c.status_of.result c.in_ok-text.text))
    c.in_ok-table.table.planes c.in_ok-table.ensures.counted (record {
      status = c.status_of.ensures.small;
      found = record {
        begins = begins;
        is_found = subst (λ (w : PartSet). IsFoundIn parts w begins) c.in_ok-table.ensures.all c.beginning-found.ensures.found;
        is = ap₂ (λ n t. Ok (answer n t)) (c.status_of.ensures.is ∙ ap (λ (w : PartSet). local_status w begins) all)
            (c.in_ok-text.ensures ∙ ap (λ (w : PartSet). local_text w begins) all);
      };
      cause = λ shelf. tt;
    })
