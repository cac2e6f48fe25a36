-- What a certificate's text is an answer to.
use Rattle.std.proofs.Common.{◌≡◌, ◌≤◌, Bool, List, length, Ok, Err, ap₂, refl, arith}
use Rattle.staat_limits.specs.declared.limits.TheConstants.{TEXT_LIMIT}
use Rattle.staat_model.specs.declared.assembly.Part.{Part}
use Rattle.staat_model.specs.declared.refusal.TextRefusal.{TextRefusal}
use Rattle.staat_model.specs.declared.refusal.TextRefusal.TheVariants as refusal
use Rattle.staat_short.specs.declared.short.ShortCertificate.{ShortCertificate}
use Rattle.staat_short.specs.ShortTexts.{IsShortInOrder, short_text}
use Rattle.staat_short.specs.ShortWriting.{IsShortTextAnswer}
use Rattle.staat_confirm.specs.declared.verdict.ShortVerdict.TheVariants.{ValidPlan, ValidRefusal}
use Rattle.staat_confirm.specs.ShortVerdicts.{IsShortVerdict}
use Rattle.staat_input.specs.declared.answer.Answer.{Answer}
use Rattle.staat_input.specs.Refusals.{text_fault}
use Rattle.staat_input.specs.Work.{Follows, answer}
use Rattle.staat_deciding.specs.Deciding.{IsDecidedShort, IsShortRefusal, long_refusal, short_plan, short_refusal}

pub plan_written : (rest : Bool) (parts : List Part) (c : ShortCertificate) (a : Answer) → IsShortVerdict parts c ValidPlan → IsShortTextAnswer c (Ok a.text) → a.status ≡ 0 → IsDecidedShort rest parts (Ok a)
plan_written rest parts c a valid (is, few) status = short_plan c a.text valid is few (ap₂ (λ n t. Ok (answer n t)) status refl)

-- the text of a plan's certificate is not too long
pub plan_unwritten : (rest : Bool) (parts : List Part) (c : ShortCertificate) (r : TextRefusal) → length (short_text c) ≤ TEXT_LIMIT → IsShortTextAnswer c (Err r) → Follows (IsDecidedShort rest parts) (Err (text_fault r))
plan_unwritten rest parts c (refusal.TextTooLong n) few (many, is) = absurd (omega (arith, few, many))
plan_unwritten rest parts c refusal.OutOfMemory few none = tt

pub refusal_written : (rest : Bool) (parts : List Part) (c : ShortCertificate) (a : Answer) → IsShortVerdict parts c ValidRefusal → IsShortRefusal rest c.answer → IsShortTextAnswer c (Ok a.text) → a.status ≡ 1 → IsDecidedShort rest parts (Ok a)
refusal_written rest parts c a valid kind (is, few) status = short_refusal c a.text valid kind is few (ap₂ (λ n t. Ok (answer n t)) status refl)

pub refusal_unwritten : (rest : Bool) (parts : List Part) (c : ShortCertificate) (r : TextRefusal) → IsShortInOrder c → IsShortVerdict parts c ValidRefusal → IsShortRefusal rest c.answer → IsShortTextAnswer c (Err r) → Follows (IsDecidedShort rest parts) (Err (text_fault r))
refusal_unwritten rest parts c (refusal.TextTooLong n) order valid kind (many, is) = long_refusal c n valid kind order many is refl
refusal_unwritten rest parts c refusal.OutOfMemory order valid kind none = tt

pub ruleset writing = (plan_written, plan_unwritten, refusal_written, refusal_unwritten)
