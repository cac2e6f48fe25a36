use Rattle.std.proofs.Common.{◌≡◌, ◌∙◌, ℕ, List, ap, refl, sym}
use Rattle.staat_fault.specs.declared.fault.Fault.TheVariants.{OutOfMemory}
use Rattle.staat_input.proofs.InputLemmas.{failed_with, no_value}
use Rattle.staat_input.specs.declared.answer.Answer.{Answer}
use Rattle.staat_short.specs.declared.short.ShortAnswer.{ShortAnswer}
use Rattle.staat_confirm.specs.declared.verdict.ShortVerdict.{ShortVerdict}
use Rattle.staat_confirm.specs.declared.verdict.ShortVerdict.TheVariants.{ValidPlan, ValidRefusal, Not}
use Rattle.staat_judging.specs.Confirming.{short_verdict_answer, short_verdict_text}
use Rattle.staat_judging.proofs.confirm.answer_of.Goals as goal

abbrev with_status : ℕ → List ℕ → Answer
with_status status text = record { status = status; text = text }

-- the line of the verdict with its status
said : (a : ShortAnswer) (v w : ShortVerdict) (status : ℕ) (text : List ℕ) → text ≡ short_verdict_text a v → v ≡ w
    → short_verdict_answer a w ≡ with_status status (short_verdict_text a w)
    → with_status status text ≡ short_verdict_answer a v
said a v w status text line is answers = ap (with_status status) (line ∙ ap (short_verdict_text a) is)
    ∙ sym answers ∙ sym (ap (short_verdict_answer a) is)

pub returns-in-Not-clause-is : goal.returns-in-Not-clause-is
returns-in-Not-clause-is c = said c.args.answer.now c.args.verdict.now (Not c.in-Not.field-0) 1 c.in_ok-text.text
    c.in_ok-text.ensures c.in-Not.is refl

pub returns-in-ValidPlan-clause-is : goal.returns-in-ValidPlan-clause-is
returns-in-ValidPlan-clause-is c = said c.args.answer.now c.args.verdict.now ValidPlan 0 c.in_ok-text.text
    c.in_ok-text.ensures c.in-ValidPlan.is refl

pub returns-in-ValidRefusal-clause-is : goal.returns-in-ValidRefusal-clause-is
returns-in-ValidRefusal-clause-is c = said c.args.answer.now c.args.verdict.now ValidRefusal 0 c.in_ok-text.text
    c.in_ok-text.ensures c.in-ValidRefusal.is refl

pub returns-in_err-text : goal.returns-in_err-text
returns-in_err-text c =
    let found = c.from_residual.result in
    let is = c.from_residual.ensures.1 in
    record {
      status = no_value _ _ found is;
      is = no_value _ _ found is;
      memory = failed_with (λ fault. fault ≡ OutOfMemory) OutOfMemory found refl is;
    }
