use Rattle.std.proofs.Common.{rules, ◌≡◌, subst, Ok}
use Rattle.staat_confirm.specs.declared.verdict.ShortVerdict.TheVariants.{ValidPlan, ValidRefusal}
use Rattle.staat_confirm.specs.ShortVerdicts.{ShowsPlan, ShowsRefusal}
use Rattle.staat_confirm.proofs.Telling.{fit_answer, only_told, plan_told, refusal_told}
use Rattle.staat_confirm.proofs.judging.confirm.Goals as goal

pub answer_verdict-requires : goal.answer_verdict-requires
answer_verdict-requires g c = fit_answer c.args.c.now c.requires

pub returns-clause-only : goal.returns-clause-only
returns-clause-only g c = only_told c.args.product.now c.args.c.now c.answer_verdict.result (search rules)

pub returns-clause-plan : goal.returns-clause-plan
returns-clause-plan g c = subst (λ ps. c.answer_verdict.result ≡ Ok ValidPlan → ShowsPlan ps c.args.c.now.answer) c.product-product.ensures.product
    (plan_told c.product-product.result.now c.args.c.now.answer c.answer_verdict.result c.parts.ensures.product.each (fit_answer c.args.c.now c.requires) c.answer_verdict.ensures)

pub returns-clause-refusal : goal.returns-clause-refusal
returns-clause-refusal g c = subst (λ ps. c.answer_verdict.result ≡ Ok ValidRefusal → ShowsRefusal ps c.args.c.now.answer) c.product-product.ensures.product
    (refusal_told c.product-product.result.now c.args.c.now.answer c.answer_verdict.result c.parts.ensures.product.each (fit_answer c.args.c.now c.requires) c.answer_verdict.ensures)
