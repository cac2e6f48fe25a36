-- The outcome of an assembly, and how it is written.
use Rattle.std.proofs.Common.{◌≡◌, ◌<◌, ◌≤◌, ℕ, Bool, List, length, Option, Some, None, Ok, Err, ap, sym, subst, arith}
use Rattle.std.specs.Prelude.{Result}
use Rattle.staat_model.specs.declared.assembly.Part.{Part}
use Rattle.staat_model.specs.declared.certificate.Certificate.{Certificate}
use Rattle.staat_limits.specs.declared.limits.TheConstants.{MOST_PARTS, TEXT_LIMIT}
use Rattle.staat_model.specs.declared.refusal.TextRefusal.{TextRefusal}
use Rattle.staat_model.specs.declared.refusal.TextRefusal.TheVariants as refusal
use Rattle.staat_model.specs.Certify.{IsCertificateOf}
use Rattle.staat_model.specs.Assemblies.{IsAssembly}
use Rattle.staat_model.specs.Outcomes.{Finding, IsOutcome, planned, stuck}
use Rattle.staat_model.specs.Sets.{Has}
use Rattle.staat_model.proofs.SetBits.{has-below}
use Rattle.staat_plan.specs.Planning.{Settles}
use Rattle.staat_cert.specs.Writing.{IsTextAnswer}
use Rattle.staat_fault.specs.declared.fault.Fault.{Fault}
use Rattle.staat_fault.specs.declared.fault.Fault.TheVariants.{TextTooLong}
use Rattle.staat_text.specs.PlanTexts.{CanBeShown, plan_text}
use Rattle.staat_text.proofs.PlanSteps.{good_leaves}
use Rattle.staat_input.specs.declared.answer.Answer.{Answer}
use Rattle.staat_input.specs.Counting.{all_parts}
use Rattle.staat_planning.specs.Planning.{IsPlanned, IsPrinted, certificate, outcome_answer, steps, text_too_long}
use Rattle.staat_input.specs.Refusals.{text_fault}
use Rattle.staat_input.specs.Work.{Follows, Then}
use Rattle.staat_input.proofs.InputLemmas.{follows_fault}
use Rattle.staat_input.proofs.CountingLemmas.{counted_many}

part_small : (parts : List Part) (p : ℕ) → IsAssembly parts → Has (all_parts parts) p → p < MOST_PARTS
part_small parts p assembly h = omega (arith, (has-below (length parts) p).0 h, assembly.at_most)

pub can_be_shown : (parts : List Part) (f : Finding) → IsAssembly parts → Settles parts (all_parts parts) f → CanBeShown f
can_be_shown parts (planned plan marks) assembly good = good_leaves parts plan (all_parts parts) (λ p h. part_small parts p assembly h) good
can_be_shown parts (stuck w) assembly lies = tt

-- ---- what is written

pub written_steps : (parts : List Part) (f : Finding) (o : Option ℕ) (text : List ℕ) → o ≡ None → text ≡ plan_text f → IsPrinted parts f o (Ok text)
written_steps parts f o text none e = subst (λ o. IsPrinted parts f o (Ok text)) (sym none) (steps (ap Ok e))

pub written_certificate : (parts : List Part) (f : Finding) (version : ℕ) (c : Certificate) (text : List ℕ) → IsCertificateOf parts version f c → IsTextAnswer c (Ok text) → IsPrinted parts f (Some version) (Ok text)
written_certificate parts f version c text is (written, few) =
    certificate c is (subst (λ (t : List ℕ). length t ≤ TEXT_LIMIT) written.is few) (ap Ok written.is)

pub written_long : (parts : List Part) (f : Finding) (version : ℕ) (c : Certificate) (r : TextRefusal) → IsCertificateOf parts version f c → IsTextAnswer c (Err r) → Follows (IsPrinted parts f (Some version)) (Err (text_fault r))
written_long parts f version c (refusal.TextTooLong n) is (e, many) = text_too_long c is (subst (λ n. TEXT_LIMIT < n) e many) (ap (λ n. Err (TextTooLong n)) e)
written_long parts f version c refusal.OutOfMemory is answer = tt

pub ruleset writing = (written_steps, written_certificate, written_long)

-- the outcome was not written
pub planned_found : (parts : List Part) (robust : Bool) (f : Finding) (o : Option ℕ) (r : Result Answer Fault) → IsOutcome robust parts (all_parts parts) f → Follows (Then (IsPrinted parts f o) (λ text found. found ≡ Ok (outcome_answer f text))) r → Follows (IsPlanned parts robust o) r
planned_found parts robust f o (Ok a) outcome h = record { finding = f; outcome = outcome; written = h }
planned_found parts robust f o (Err e) outcome h =
    follows_fault (Then (IsPrinted parts f o) (λ text found. found ≡ Ok (outcome_answer f text))) (IsPlanned parts robust o) e
    (λ g at. record { finding = f; outcome = outcome; written = at }) h

pub ruleset planning = (can_be_shown, counted_many)
