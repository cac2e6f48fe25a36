-- The plan that takes all parts apart, or the parts that no plan takes apart, and how either is written.
use Rattle.std.specs.Prelude.{◌≡◌, ◌<◌, ◌≤◌, ℕ, List, Option, Some, None, length, Bool, true, Ok, Err}
use Rattle.staat_model.specs.declared.assembly.Part.{Part}
use Rattle.staat_model.specs.declared.certificate.Certificate.{Certificate}
use Rattle.staat_limits.specs.declared.limits.TheConstants.{TEXT_LIMIT}
use Rattle.staat_model.specs.Certify.{IsCertificateOf}
use Rattle.staat_model.specs.Outcomes.{Finding, IsOutcome, planned, stuck}
use Rattle.staat_model.specs.Texts.{text_of}
use Rattle.staat_fault.specs.declared.fault.Fault.TheVariants.{TextTooLong}
use Rattle.staat_text.specs.PlanTexts.{plan_text}
use Rattle.staat_input.specs.declared.answer.Answer.{Answer}
use Rattle.staat_input.specs.Work.{Found, Then, Files}
use Rattle.staat_input.specs.Counting.{all_parts, AreCounted}
use Rattle.staat_model.specs.declared.set.PartSet.{PartSet}
use Rattle.staat_model.specs.declared.tree.Kind.{Kind}
use Rattle.staat_model.specs.Plans.{IsGood, IsStuck, Plan as Tree}
use Rattle.staat_model.specs.Sets.{IsSubset}
use Rattle.staat_certify.specs.Certifying.{IsValidFor}
use Rattle.staat_plan.specs.Marks.{MarksHold}
use Rattle.staat_words.specs.declared.request.PlanRequest.{PlanRequest}
use Rattle.staat_input.specs.Assembling.{IsSoundOf, AreSoundParts}

-- What the step finds that writes an outcome: its steps, or its certificate of the version that is asked for, which
-- may be too long.
pub data IsPrinted (parts : List Part) (finding : Finding) : Option ℕ → Found (List ℕ) → Type 0 where
  steps : {found : Found (List ℕ)} → found ≡ Ok (plan_text finding) → IsPrinted parts finding None found
  certificate : {version : ℕ} {found : Found (List ℕ)} (c : Certificate) →
      IsCertificateOf parts version finding c →
      length (text_of c) ≤ TEXT_LIMIT → found ≡ Ok (text_of c) → IsPrinted parts finding (Some version) found
  text_too_long : {version : ℕ} {found : Found (List ℕ)} (c : Certificate) →
      IsCertificateOf parts version finding c →
      TEXT_LIMIT < length (text_of c) → found ≡ Err (TextTooLong (length (text_of c))) →
      IsPrinted parts finding (Some version) found

-- 0 for a plan and 1 for a set that is stuck
abbrev pub outcome_status : Finding → ℕ
outcome_status (planned plan marks) = 0
outcome_status (stuck w) = 1

-- the answer for an outcome with this text
abbrev pub outcome_answer : Finding → List ℕ → Answer
outcome_answer finding text = record { status = outcome_status finding; text = text }

-- The last step for a plan: the outcome of all parts, written.
pub record IsPlanned (parts : List Part) (robust : Bool) (certificate : Option ℕ) (found : Found Answer)
    : Type 0 where
  pub finding : Finding
  pub outcome : IsOutcome robust parts (all_parts parts) finding
  pub written : Then (IsPrinted parts finding certificate) (λ text found. found ≡ Ok (outcome_answer finding text))
      found

-- what it finds for sound parts: their planes are counted, and then they are planned
abbrev pub IsCountedPlan : PlanRequest → List Part → Found Answer → Type 0
IsCountedPlan request parts found =
    Then (AreCounted parts request.planes) (λ planes. IsPlanned parts request.robust request.certificate) found

-- what the work on `plan` finds
abbrev pub PlanWork : PlanRequest → Files → Found Answer → Type 0
PlanWork request files found =
    Then (IsSoundOf files request.asked) (λ parts. Then (AreCounted parts request.planes)
    (λ planes. IsPlanned parts request.robust request.certificate)) found

-- the text says the outcome: its steps, or a certificate of the version that is asked for, which is valid
abbrev pub SaysOutcome : List Part → Finding → Option ℕ → List ℕ → Type 0
SaysOutcome parts finding None text = text ≡ plan_text finding
SaysOutcome parts finding (Some version) text =
    (c : Certificate) × (text ≡ text_of c) × IsCertificateOf parts version finding c × IsValidFor parts finding c

-- the text is that of a plan that takes all parts apart; in a robust plan each mark says what is so of its step
pub record SaysGoodPlan (files : Files) (request : PlanRequest) (text : List ℕ) : Type 0 where
  pub parts : List Part
  pub sound : AreSoundParts files request.asked parts
  pub tree : Tree
  pub marks : List Kind
  pub good : IsGood parts (all_parts parts) tree
  pub marks_hold : request.robust ≡ true → MarksHold parts tree marks
  pub says : SaysOutcome parts (planned tree marks) request.certificate text

-- the text names parts that no step takes apart
pub record SaysStuckSet (files : Files) (request : PlanRequest) (text : List ℕ) : Type 0 where
  pub parts : List Part
  pub sound : AreSoundParts files request.asked parts
  pub set : PartSet
  pub within : IsSubset set (all_parts parts)
  pub is_stuck : IsStuck parts set
  pub says : SaysOutcome parts (stuck set) request.certificate text
