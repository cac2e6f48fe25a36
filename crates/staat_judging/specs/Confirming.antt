-- The short certificate that a file holds, and the verdict on it.
use Rattle.std.specs.Prelude.{◌≡◌, ◌⊎◌, ℕ, ◌+◌, ◌++◌, List, codes, decimal, length, Ok, Err}
use Rattle.std.specs.Prelude.{sum_by, take}
use Rattle.staat_limits.specs.declared.limits.TheConstants.{TEXT_LIMIT}
use Rattle.staat_model.specs.declared.assembly.Part.{Part}
use Rattle.staat_model.specs.Lines.{vector_numbers}
use Rattle.staat_cert.specs.declared.cert_refusal.CertRefusal.{CertRefusal}
use Rattle.staat_cert.specs.declared.cert_refusal.CertRefusal.TheVariants as cert
use Rattle.staat_holds.specs.declared.hold.HoldRule.{HoldRule}
use Rattle.staat_holds.specs.declared.hold.HoldRule.TheVariants.{BadPair, FewNodes, Gap, NoNode}
use Rattle.staat_short.specs.declared.short.ShortNode.{ShortNode}
use Rattle.staat_short.specs.declared.short.ShortNode.TheVariants.{Leaf, Split, Group}
use Rattle.staat_short.specs.declared.short.ShortAnswer.{ShortAnswer}
use Rattle.staat_short.specs.declared.short.ShortAnswer.TheVariants as answers
use Rattle.staat_short.specs.declared.short.ShortCertificate.{ShortCertificate}
use Rattle.staat_short.specs.ShortFeeds.{IsShortReadAnswer}
use Rattle.staat_confirm.specs.declared.verdict.ShortReason.{ShortReason}
use Rattle.staat_confirm.specs.declared.verdict.ShortReason.TheVariants as reasons
use Rattle.staat_confirm.specs.declared.verdict.ShortVerdict.{ShortVerdict}
use Rattle.staat_confirm.specs.declared.verdict.ShortVerdict.TheVariants.{ValidPlan, ValidRefusal, Not}
use Rattle.staat_confirm.specs.ShortVerdicts.{IsShortVerdict, ShowsPlan, ShowsRefusal}
use Rattle.staat_text.specs.PlanTexts.{numbers_before}
use Rattle.staat_words.specs.declared.request.CheckRequest.{CheckRequest}
use Rattle.staat_input.specs.declared.answer.Answer.{Answer}
use Rattle.staat_input.specs.Work.{Files, Found, IsTakenWithin, Then}
use Rattle.staat_input.specs.Assembling.{AreSoundProductParts, IsSoundProductOf}
use Rattle.staat_judging.specs.Checking.{cert_fault}

-- ---- the line of a verdict

-- how many holds a node has
abbrev pub hold_count : ShortNode → ℕ
hold_count (Leaf p) = 0
hold_count (Split d) = 0
hold_count (Group holds) = length holds

-- how many holds stand in the text before the node of this number
abbrev pub holds_before : ShortAnswer → ℕ → ℕ
holds_before (answers.Plan nodes) k = sum_by hold_count (take k nodes)
holds_before (answers.Stuck holds) k = 0
holds_before (answers.Rest nodes) k = sum_by hold_count (take k nodes)

-- the rule that a hold breaks, by the number of the hold in the whole text
abbrev pub hold_rule_text : ℕ → HoldRule → List ℕ
hold_rule_text hold (NoNode k) =
    codes "no node at place " ++ decimal k ++ codes " of hold " ++ decimal hold ++ codes "\n"
hold_rule_text hold FewNodes = codes "fewer than two nodes in hold " ++ decimal hold ++ codes "\n"
hold_rule_text hold (BadPair k) =
    codes "bad pair at place " ++ decimal k ++ codes " of hold " ++ decimal hold ++ codes "\n"
hold_rule_text hold (Gap v) =
    codes "gap" ++ numbers_before (vector_numbers v) (codes " in hold " ++ decimal hold ++ codes "\n")

-- a rule of a certificate that is broken, with the numbers that tell where
abbrev pub short_reason_text : ShortAnswer → ShortReason → List ℕ
short_reason_text a (reasons.WrongParts n) = codes "wrong parts " ++ decimal n ++ codes "\n"
short_reason_text a (reasons.HoldBreaks broken) = hold_rule_text broken.hold broken.rule
short_reason_text a (reasons.GroupBreaks node broken) =
    hold_rule_text (holds_before a node + broken.hold) broken.rule
short_reason_text a (reasons.BadLeaves node) = codes "bad leaves at node " ++ decimal node ++ codes "\n"
short_reason_text a (reasons.ZeroDirection node) = codes "zero direction at node " ++ decimal node ++ codes "\n"
short_reason_text x (reasons.Meet a i b j node) =
    codes "pieces " ++ decimal a ++ codes " " ++ decimal i ++ codes " and " ++ decimal b ++ codes " " ++ decimal j
    ++ codes " meet at node " ++ decimal node ++ codes "\n"

abbrev pub short_verdict_text : ShortAnswer → ShortVerdict → List ℕ
short_verdict_text a ValidPlan = codes "valid plan\n"
short_verdict_text a ValidRefusal = codes "valid refusal\n"
short_verdict_text a (Not reason) = codes "not valid: " ++ short_reason_text a reason

-- the line of a verdict, with status 0 where the certificate is valid, and 1 where it is not
abbrev pub short_verdict_answer : ShortAnswer → ShortVerdict → Answer
short_verdict_answer a (Not reason) = record { status = 1; text = short_verdict_text a (Not reason) }
short_verdict_answer a verdict = record { status = 0; text = short_verdict_text a verdict }

-- ---- the work

-- What the bytes of a short certificate's file say: they are the text of this certificate, or a line is the first bad
-- one, or they are too short.
pub data SaysShortCertificate (name bytes : List ℕ) : Found ShortCertificate → Type 0 where
  says_short : {found : Found ShortCertificate} (certificate : ShortCertificate) →
      IsShortReadAnswer bytes (Ok certificate) → found ≡ Ok certificate → SaysShortCertificate name bytes found
  says_no : {found : Found ShortCertificate} (refusal : CertRefusal) → IsShortReadAnswer bytes (Err refusal) →
      (refusal ≡ cert.OutOfMemory → ⊥) → found ≡ Err (cert_fault name refusal) →
      SaysShortCertificate name bytes found

-- What the step finds that reads the short certificate of a file. A longer file is refused before what it says.
abbrev pub IsShortCertificateIn : Files → List ℕ → Found ShortCertificate → Type 0
IsShortCertificateIn files name = IsTakenWithin TEXT_LIMIT files name (SaysShortCertificate name)

-- the last step for a short certificate: the answer that the verdict on it is
pub record IsConfirmed (parts : List Part) (certificate : ShortCertificate) (found : Found Answer) : Type 0 where
  pub verdict : ShortVerdict
  pub right : IsShortVerdict parts certificate verdict
  pub is : found ≡ Ok (short_verdict_answer certificate.answer verdict)

-- what the work on `confirm` finds: the parts are read and tested before the certificate
abbrev pub ConfirmWork : CheckRequest → Files → Found Answer → Type 0
ConfirmWork request files found =
    Then (IsSoundProductOf files request.asked) (λ parts. Then (IsShortCertificateIn files request.certificate)
    (λ certificate. IsConfirmed parts certificate)) found

-- ---- what is printed

-- What a valid short certificate shows, and the line that says so: its plan takes all parts apart, or what it names is
-- stuck and no plan takes all parts apart.
pub data ShowsShortValid (parts : List Part) (certificate : ShortCertificate) (text : List ℕ) : Type 0 where
  short_plan : IsShortVerdict parts certificate ValidPlan → ShowsPlan parts certificate.answer →
      text ≡ short_verdict_text certificate.answer ValidPlan → ShowsShortValid parts certificate text
  short_refusal : IsShortVerdict parts certificate ValidRefusal → ShowsRefusal parts certificate.answer →
      text ≡ short_verdict_text certificate.answer ValidRefusal → ShowsShortValid parts certificate text

-- the file holds a short certificate that is valid for the parts
pub record SaysShortValid (files : Files) (request : CheckRequest) (text : List ℕ) : Type 0 where
  pub parts : List Part
  pub sound : AreSoundProductParts files request.asked parts
  pub certificate : ShortCertificate
  pub held : IsShortCertificateIn files request.certificate (Ok certificate)
  pub shows : ShowsShortValid parts certificate text

-- the file holds a short certificate that breaks this rule first
pub record SaysShortNotValid (files : Files) (request : CheckRequest) (text : List ℕ) : Type 0 where
  pub parts : List Part
  pub sound : AreSoundProductParts files request.asked parts
  pub certificate : ShortCertificate
  pub held : IsShortCertificateIn files request.certificate (Ok certificate)
  pub reason : ShortReason
  pub broken : IsShortVerdict parts certificate (Not reason)
  pub text_is : text ≡ short_verdict_text certificate.answer (Not reason)

-- the files hold sound parts, and the text of a short certificate that is valid for them
pub record KeepsShortRules (files : Files) (request : CheckRequest) : Type 0 where
  pub parts : List Part
  pub sound : AreSoundProductParts files request.asked parts
  pub certificate : ShortCertificate
  pub held : IsShortCertificateIn files request.certificate (Ok certificate)
  pub valid : IsShortVerdict parts certificate ValidPlan ⊎ IsShortVerdict parts certificate ValidRefusal
