-- What statuses 0 and 1 of `check` mean.
use Rattle.std.proofs.Common.{◌≡◌, ℕ, List, refl, ap, ◌∙◌, subst, arith, inl, inr}
use Rattle.std.specs.Prelude.{Ok}
use Rattle.staat_model.specs.declared.assembly.Part.{Part}
use Rattle.staat_model.specs.Assemblies.{IsAssembly}
use Rattle.staat_words.specs.Requests.{IsAsked}
use Rattle.staat_input.specs.declared.answer.Answer.{Answer}
use Rattle.staat_input.specs.Work.{Files}
use Rattle.staat_model.specs.declared.certificate.Certificate.{Certificate}
use Rattle.staat_model.specs.declared.certificate.Body.{Body}
use Rattle.staat_model.specs.declared.certificate.Body.TheVariants as body
use Rattle.staat_model.specs.declared.verdict.Verdict.{Verdict}
use Rattle.staat_model.specs.declared.verdict.Verdict.TheVariants.{ValidPlan, ValidRefusal, Not}
use Rattle.staat_model.specs.Reasons.{IsVerdict}
use Rattle.staat_model.proofs.PlanLemmas.{plan_is_right_lemma}
use Rattle.staat_model.proofs.RefusalLemmas.{refusal_is_right_lemma}
use Rattle.staat_words.specs.declared.request.CheckRequest.{CheckRequest}
use Rattle.staat_check.specs.Verdicts.{IsPlanOf, IsRefusalWithSet}
use Rattle.staat_judging.specs.Checking.{IsCertificateIn, verdict_answer, SaysValid, SaysNotValid, ShowsValid}
use Rattle.staat_judging.specs.Checking.{valid_plan, valid_refusal, CheckWork}
use Rattle.staat_input.specs.Assembling.{AreSoundParts}
use Rattle.staat_input.proofs.SoundParts.{sound_parts, same_answer}

pub plan_shown : (parts : List Part) (version stated : ℕ) (b : Body) → IsAssembly parts → IsVerdict parts (record { version = version; parts = stated; body = b }) ValidPlan → IsPlanOf parts b
plan_shown parts version stated (body.Plan nodes) is h = plan_is_right_lemma parts stated nodes is h
plan_shown parts version stated (body.Stuck w witnesses dirs) is h = absurd h

pub refusal_shown : (parts : List Part) (version stated : ℕ) (b : Body) → IsAssembly parts → IsVerdict parts (record { version = version; parts = stated; body = b }) ValidRefusal → IsRefusalWithSet parts b
refusal_shown parts version stated (body.Plan nodes) is h = absurd h
refusal_shown parts version stated (body.Stuck w witnesses dirs) is h = refusal_is_right_lemma parts version stated w witnesses dirs is h

-- what a verdict with status 0 shows
verdict_shows : (parts : List Part) (c : Certificate) (v : Verdict) → IsAssembly parts → IsVerdict parts c v → (verdict_answer v).status ≡ 0 → ShowsValid parts c (verdict_answer v).text
verdict_shows parts c ValidPlan is h zero = valid_plan h (plan_shown parts c.version c.parts c.body is h) refl
verdict_shows parts c ValidRefusal is h zero = valid_refusal h (refusal_shown parts c.version c.parts c.body is h) refl
verdict_shows parts c (Not reason) is h zero = absurd (omega (arith, zero))

certificate_valid : (files : Files) (request : CheckRequest) (parts : List Part) (c : Certificate) (v : Verdict) → AreSoundParts files request.asked parts → IsCertificateIn files request.certificate (Ok c) → IsVerdict parts c v → (verdict_answer v).status ≡ 0 → SaysValid files request (verdict_answer v).text
certificate_valid files request parts c v are held h zero =
    record { parts = parts; sound = are; certificate = c; held = held; shows = verdict_shows parts c v are.assembly h zero }

certificate_not_valid : (files : Files) (request : CheckRequest) (parts : List Part) (c : Certificate) (v : Verdict) → AreSoundParts files request.asked parts → IsCertificateIn files request.certificate (Ok c) → IsVerdict parts c v → (verdict_answer v).status ≡ 1 → SaysNotValid files request (verdict_answer v).text
certificate_not_valid files request parts c ValidPlan are held h one = absurd (omega (arith, one))
certificate_not_valid files request parts c ValidRefusal are held h one = absurd (omega (arith, one))
certificate_not_valid files request parts c (Not reason) are held h one =
    record { parts = parts; sound = are; certificate = c; held = held; reason = reason; broken = h; text_is = refl }

pub check_is_right : (request : CheckRequest) (files : Files) (a : Answer) → IsAsked request.asked → CheckWork request files (Ok a) → a.status ≡ 0 → SaysValid files request a.text
check_is_right request files a bounds (inl (fault, at, e)) zero = absurd cc
check_is_right request files a bounds (inr (built, found, inl (fault, at, e))) zero = absurd cc
check_is_right request files a bounds (inr (built, found, inr (c, held, p))) zero =
    let same : verdict_answer p.verdict ≡ a = same_answer a (verdict_answer p.verdict) p.is in
    subst (λ (b : Answer). SaysValid files request b.text) same
    (certificate_valid files request built c p.verdict (sound_parts files request.asked built bounds found) held p.right (ap (λ (b : Answer). b.status) same ∙ zero))

pub check_is_denied : (request : CheckRequest) (files : Files) (a : Answer) → IsAsked request.asked → CheckWork request files (Ok a) → a.status ≡ 1 → SaysNotValid files request a.text
check_is_denied request files a bounds (inl (fault, at, e)) one = absurd cc
check_is_denied request files a bounds (inr (built, found, inl (fault, at, e))) one = absurd cc
check_is_denied request files a bounds (inr (built, found, inr (c, held, p))) one =
    let same : verdict_answer p.verdict ≡ a = same_answer a (verdict_answer p.verdict) p.is in
    subst (λ (b : Answer). SaysNotValid files request b.text) same
    (certificate_not_valid files request built c p.verdict (sound_parts files request.asked built bounds found) held p.right (ap (λ (b : Answer). b.status) same ∙ one))
