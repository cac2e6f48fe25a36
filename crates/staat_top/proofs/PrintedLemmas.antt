-- The certificate that is printed is one that `check` calls valid.
use Rattle.std.proofs.Common.{◌≡◌, ◌≤◌, ℕ, List, length, Some, Ok, refl, inr}
use Rattle.staat_vec.specs.declared.vector.V3.{V3}
use Rattle.staat_model.specs.declared.assembly.Part.{Part}
use Rattle.staat_model.specs.declared.certificate.Certificate.{Certificate}
use Rattle.staat_limits.specs.declared.limits.TheConstants.{TEXT_LIMIT}
use Rattle.staat_model.specs.declared.verdict.Verdict.{Verdict}
use Rattle.staat_model.specs.declared.verdict.Verdict.TheVariants.{ValidPlan, ValidRefusal}
use Rattle.staat_model.specs.Outcomes.{Finding, IsOutcome, planned, stuck}
use Rattle.staat_model.specs.Reasons.{IsVerdict}
use Rattle.staat_model.specs.Texts.{IsTextOf}
use Rattle.staat_edge.specs.Files.{bytes_of}
use Rattle.staat_certify.specs.Certifying.{IsValidFor}
use Rattle.staat_text.specs.Verdicts.{verdict_text}
use Rattle.staat_words.specs.declared.request.Asked.{Asked}
use Rattle.staat_words.specs.declared.request.PlanRequest.{PlanRequest}
use Rattle.staat_words.specs.declared.request.Request.TheVariants.{Check}
use Rattle.staat_words.specs.Requests.{IsPlanRequest}
use Rattle.staat_input.specs.Work.{Files, taken, answer}
use Rattle.staat_input.specs.Assembling.{IsSoundOf}
use Rattle.staat_input.specs.Counting.{AreCounted, all_parts}
use Rattle.staat_planning.specs.Planning.{IsPrinted, outcome_status}
use Rattle.staat_judging.specs.Checking.{says_whole, verdict_answer}
use Rattle.staat_input.specs.declared.limits.TheConstants.Limits.{ASSEMBLY}
use Rattle.staat_input.specs.Kept.{KeepsNamed}
use Rattle.staat_top.specs.Replies.{IsReply, answered}
use Rattle.staat_top.specs.Headline.{valid_line}
use Rattle.staat_input.proofs.KeptLemmas.{sound_kept}
use Rattle.staat_input.proofs.SoundParts.{sound_parts}
use Rattle.staat_planning.proofs.PrintedLemmas.{printed_validly}

-- the verdict on the certificate that the file holds makes the reply
module _ (others : Files) (asked : Asked) (name text : List ℕ) (parts : List Part) (c : Certificate) (read : IsSoundOf others asked (Ok parts)) (held : bytes_of name others ≡ Some text) (is_text : IsTextOf text c) (short : length text ≤ TEXT_LIMIT) where
  replies : (v : Verdict) → IsVerdict parts c v → IsReply (Some (Check (record { asked = asked; certificate = name }))) others (answered (verdict_answer v))
  replies v right = record {
    found = Ok (verdict_answer v);
    work = inr (parts, read, inr (c, taken text held short (says_whole c is_text refl), record { verdict = v; right = right; is = refl }));
    makes = refl;
  }

  calls_valid : (f : Finding) → IsValidFor parts f c → IsReply (Some (Check (record { asked = asked; certificate = name }))) others (answered (answer 0 (valid_line (outcome_status f))))
  unfolding verdict_text
  calls_valid (planned plan marks) valid = replies ValidPlan valid
  calls_valid (stuck w) valid = replies ValidRefusal valid

pub printed_is_valid : (files others : Files) (request : PlanRequest) (version : ℕ) (name : List ℕ) (parts : List Part) (planes : List V3) (f : Finding) (text : List ℕ) → IsPlanRequest request → request.certificate ≡ Some version → KeepsNamed ASSEMBLY files others request.asked.input → bytes_of name others ≡ Some text
    → IsSoundOf files request.asked (Ok parts) → AreCounted parts request.planes (Ok planes) → IsOutcome request.robust parts (all_parts parts) f → IsPrinted parts f request.certificate (Ok text)
    → IsReply (Some (Check (record { asked = request.asked; certificate = name }))) others (answered (answer 0 (valid_line (outcome_status f))))
printed_is_valid files others request version name parts planes f text bounds asks keeps held read counted outcome written =
    let is = (sound_parts files request.asked parts bounds.0 read).assembly in
    let w = printed_validly request version parts planes f text bounds asks is counted outcome written in
    calls_valid others request.asked name text parts w.c (sound_kept files others request.asked parts keeps read) held w.is_text w.short f w.valid
