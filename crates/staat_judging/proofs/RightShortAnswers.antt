-- What statuses 0 and 1 of `confirm` mean.
use Rattle.std.proofs.Common.{◌≡◌, ℕ, List, refl, sym, ap, ◌∙◌, subst, arith, inl, inr}
use Rattle.std.specs.Prelude.{Ok, All}
use Rattle.staat_limits.specs.declared.limits.TheConstants.{MOST_PRODUCT_PARTS}
use Rattle.staat_model.specs.declared.assembly.Part.{Part}
use Rattle.staat_model.specs.Assemblies.{IsPart}
use Rattle.staat_short.specs.declared.short.ShortCertificate.{ShortCertificate}
use Rattle.staat_short.specs.ShortTexts.{IsShortInOrder}
use Rattle.staat_confirm.specs.declared.verdict.ShortVerdict.{ShortVerdict}
use Rattle.staat_confirm.specs.declared.verdict.ShortVerdict.TheVariants.{ValidPlan, ValidRefusal, Not}
use Rattle.staat_confirm.specs.ShortVerdicts.{IsShortVerdict, wrong_count, right_count, ShowsPlan, ShowsRefusal}
use Rattle.staat_confirm.proofs.Telling.{fit_answer, plan_told, refusal_told}
use Rattle.staat_words.specs.Requests.{IsAskedWithin}
use Rattle.staat_words.specs.declared.request.CheckRequest.{CheckRequest}
use Rattle.staat_input.specs.declared.answer.Answer.{Answer}
use Rattle.staat_input.specs.Work.{Files, to_read, too_long, taken}
use Rattle.staat_input.specs.Assembling.{AreSoundProductParts}
use Rattle.staat_input.proofs.OneFinding.{given_one}
use Rattle.staat_input.proofs.SoundParts.{sound_product_parts, same_answer}
use Rattle.staat_judging.specs.Confirming.{IsShortCertificateIn, says_short, says_no, short_verdict_answer}
use Rattle.staat_judging.specs.Confirming.{ConfirmWork, SaysShortValid, SaysShortNotValid}
use Rattle.staat_judging.specs.Confirming.{ShowsShortValid, short_plan, short_refusal}

-- what is read in a file is in the order of its text
pub held_in_order : (files : Files) (name : List ℕ) (c : ShortCertificate) → IsShortCertificateIn files name (Ok c)
    → IsShortInOrder c
held_in_order files name c (to_read e) = absurd cc
held_in_order files name c (too_long bytes is long e) = absurd cc
held_in_order files name c (taken bytes is few (says_short d h e)) = subst IsShortInOrder (sym (given_one c d e))
    h.1.form
held_in_order files name c (taken bytes is few (says_no r h some e)) = absurd cc

pub plan_shown : (parts : List Part) (c : ShortCertificate) → All IsPart parts → IsShortInOrder c
    → IsShortVerdict parts c ValidPlan → ShowsPlan parts c.answer
plan_shown parts c each form (wrong_count other e) = absurd cc
plan_shown parts c each form (right_count same h) = plan_told parts c.answer (Ok ValidPlan) each (fit_answer c form) h
    refl

pub refusal_shown : (parts : List Part) (c : ShortCertificate) → All IsPart parts → IsShortInOrder c
    → IsShortVerdict parts c ValidRefusal → ShowsRefusal parts c.answer
refusal_shown parts c each form (wrong_count other e) = absurd cc
refusal_shown parts c each form (right_count same h) = refusal_told parts c.answer (Ok ValidRefusal) each
    (fit_answer c form) h refl

-- what a verdict with status 0 shows
verdict_shows : (parts : List Part) (c : ShortCertificate) (v : ShortVerdict) → All IsPart parts → IsShortInOrder c
    → IsShortVerdict parts c v → (short_verdict_answer c.answer v).status ≡ 0
    → ShowsShortValid parts c (short_verdict_answer c.answer v).text
verdict_shows parts c ValidPlan each form h zero = short_plan h (plan_shown parts c each form h) refl
verdict_shows parts c ValidRefusal each form h zero = short_refusal h (refusal_shown parts c each form h) refl
verdict_shows parts c (Not reason) each form h zero = absurd (omega (arith, zero))

certificate_valid : (files : Files) (request : CheckRequest) (parts : List Part) (c : ShortCertificate)
    (v : ShortVerdict) → AreSoundProductParts files request.asked parts
    → IsShortCertificateIn files request.certificate (Ok c) → IsShortVerdict parts c v
    → (short_verdict_answer c.answer v).status ≡ 0 → SaysShortValid files request
    (short_verdict_answer c.answer v).text
certificate_valid files request parts c v are held h zero =
    record {
      parts = parts;
      sound = are;
      certificate = c;
      held = held;
      shows = verdict_shows parts c v are.product.each
          (held_in_order files request.certificate c held) h zero;
    }

certificate_not_valid : (files : Files) (request : CheckRequest) (parts : List Part) (c : ShortCertificate)
    (v : ShortVerdict) → AreSoundProductParts files request.asked parts
    → IsShortCertificateIn files request.certificate (Ok c) → IsShortVerdict parts c v
    → (short_verdict_answer c.answer v).status ≡ 1 → SaysShortNotValid files request
    (short_verdict_answer c.answer v).text
certificate_not_valid files request parts c ValidPlan are held h one = absurd (omega (arith, one))
certificate_not_valid files request parts c ValidRefusal are held h one = absurd (omega (arith, one))
certificate_not_valid files request parts c (Not reason) are held h one =
    record { parts = parts; sound = are; certificate = c; held = held; reason = reason; broken = h; text_is = refl }

pub confirm_is_right : (request : CheckRequest) (files : Files) (a : Answer)
    → IsAskedWithin MOST_PRODUCT_PARTS request.asked → ConfirmWork request files (Ok a) → a.status ≡ 0
    → SaysShortValid files request a.text
confirm_is_right request files a bounds (inl (fault, at, e)) zero = absurd cc
confirm_is_right request files a bounds (inr (built, found, inl (fault, at, e))) zero = absurd cc
confirm_is_right request files a bounds (inr (built, found, inr (c, held, p))) zero =
    let same : short_verdict_answer c.answer p.verdict ≡ a = same_answer a (short_verdict_answer c.answer p.verdict)
    p.is in
    subst (λ (b : Answer). SaysShortValid files request b.text) same
    (certificate_valid files request built c p.verdict (sound_product_parts files request.asked built bounds found)
    held p.right (ap (λ (b : Answer). b.status) same ∙ zero))

pub confirm_is_denied : (request : CheckRequest) (files : Files) (a : Answer)
    → IsAskedWithin MOST_PRODUCT_PARTS request.asked → ConfirmWork request files (Ok a) → a.status ≡ 1
    → SaysShortNotValid files request a.text
confirm_is_denied request files a bounds (inl (fault, at, e)) one = absurd cc
confirm_is_denied request files a bounds (inr (built, found, inl (fault, at, e))) one = absurd cc
confirm_is_denied request files a bounds (inr (built, found, inr (c, held, p))) one =
    let same : short_verdict_answer c.answer p.verdict ≡ a = same_answer a (short_verdict_answer c.answer p.verdict)
    p.is in
    subst (λ (b : Answer). SaysShortNotValid files request b.text) same
    (certificate_not_valid files request built c p.verdict (sound_product_parts files request.asked built bounds found)
    held p.right (ap (λ (b : Answer). b.status) same ∙ one))
