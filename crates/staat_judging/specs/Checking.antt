-- The certificate that a file holds, and the verdict on it.
use Rattle.std.specs.Prelude.{◌≡◌, ℕ, List, Ok, Err}
use Rattle.staat_model.specs.declared.assembly.Part.{Part}
use Rattle.staat_model.specs.declared.certificate.Certificate.{Certificate}
use Rattle.staat_limits.specs.declared.limits.TheConstants.{TEXT_LIMIT}
use Rattle.staat_model.specs.declared.verdict.Verdict.{Verdict}
use Rattle.staat_model.specs.declared.verdict.Verdict.TheVariants.{Not, ValidPlan, ValidRefusal}
use Rattle.staat_model.specs.Reasons.{IsVerdict}
use Rattle.staat_model.specs.Texts.{IsReading, whole, bad_line, too_short}
use Rattle.staat_fault.specs.declared.fault.Fault.TheVariants.{BadLine, ShortCert}
use Rattle.staat_text.specs.Verdicts.{verdict_text}
use Rattle.staat_input.specs.declared.answer.Answer.{Answer}
use Rattle.staat_input.specs.Work.{Files, Found, IsTakenWithin, Then}
use Rattle.staat_model.specs.declared.verdict.Reason.{Reason}
use Rattle.staat_words.specs.declared.request.CheckRequest.{CheckRequest}
use Rattle.staat_fault.specs.declared.fault.Fault.{Fault}
use Rattle.staat_check.specs.Verdicts.{IsPlanOf, IsRefusalWithSet}
use Rattle.staat_input.specs.Assembling.{IsSoundOf, AreSoundParts}
use Rattle.staat_fault.specs.declared.fault.Fault.TheVariants as fault
use Rattle.staat_cert.specs.declared.cert_refusal.CertRefusal.{CertRefusal}
use Rattle.staat_cert.specs.declared.cert_refusal.CertRefusal.TheVariants as cert

-- the fault that a refusal is, with the file's name
abbrev pub cert_fault : List ℕ → CertRefusal → Fault
cert_fault name (cert.BadLine line) = fault.BadLine name line
cert_fault name cert.ShortCert = fault.ShortCert name
cert_fault name cert.TooLong = fault.TooLong name
cert_fault name cert.OutOfMemory = fault.OutOfMemory

-- What the bytes of a certificate's file say: they are the text of this certificate, or a line is the first bad one,
-- or they are too short.
pub data SaysCertificate (name bytes : List ℕ) : Found Certificate → Type 0 where
  says_whole : {found : Found Certificate} (certificate : Certificate) → IsReading bytes (whole certificate) →
      found ≡ Ok certificate → SaysCertificate name bytes found
  says_bad : {found : Found Certificate} (number : ℕ) → IsReading bytes (bad_line number) →
      found ≡ Err (BadLine name number) → SaysCertificate name bytes found
  says_short : {found : Found Certificate} → IsReading bytes too_short → found ≡ Err (ShortCert name) →
      SaysCertificate name bytes found

-- What the step finds that reads the certificate of a file. A longer file is refused before what it says.
abbrev pub IsCertificateIn : Files → List ℕ → Found Certificate → Type 0
IsCertificateIn files name = IsTakenWithin TEXT_LIMIT files name (SaysCertificate name)

-- the line of a verdict, with status 0 where the certificate is valid, and 1 where it is not
abbrev pub verdict_answer : Verdict → Answer
verdict_answer (Not reason) = record { status = 1; text = verdict_text (Not reason) }
verdict_answer verdict = record { status = 0; text = verdict_text verdict }

-- The last step for a certificate: the answer that the verdict on it is.
pub record IsChecked (parts : List Part) (certificate : Certificate) (found : Found Answer) : Type 0 where
  pub verdict : Verdict
  pub right : IsVerdict parts certificate verdict
  pub is : found ≡ Ok (verdict_answer verdict)

-- what the work on `check` finds: the parts are read and tested before the certificate
abbrev pub CheckWork : CheckRequest → Files → Found Answer → Type 0
CheckWork request files found =
    Then (IsSoundOf files request.asked) (λ parts. Then (IsCertificateIn files request.certificate)
    (λ certificate. IsChecked parts certificate)) found

-- What a valid certificate shows, and the line that says so: its tree takes all parts apart, or its set is stuck and
-- no plan takes all parts apart.
pub data ShowsValid (parts : List Part) (certificate : Certificate) (text : List ℕ) : Type 0 where
  valid_plan : IsVerdict parts certificate ValidPlan → IsPlanOf parts certificate.body →
      text ≡ verdict_text ValidPlan → ShowsValid parts certificate text
  valid_refusal : IsVerdict parts certificate ValidRefusal → IsRefusalWithSet parts certificate.body →
      text ≡ verdict_text ValidRefusal → ShowsValid parts certificate text

-- the file holds a certificate that is valid for the parts
pub record SaysValid (files : Files) (request : CheckRequest) (text : List ℕ) : Type 0 where
  pub parts : List Part
  pub sound : AreSoundParts files request.asked parts
  pub certificate : Certificate
  pub held : IsCertificateIn files request.certificate (Ok certificate)
  pub shows : ShowsValid parts certificate text

-- the file holds a certificate that breaks this rule first
pub record SaysNotValid (files : Files) (request : CheckRequest) (text : List ℕ) : Type 0 where
  pub parts : List Part
  pub sound : AreSoundParts files request.asked parts
  pub certificate : Certificate
  pub held : IsCertificateIn files request.certificate (Ok certificate)
  pub reason : Reason
  pub broken : IsVerdict parts certificate (Not reason)
  pub text_is : text ≡ verdict_text (Not reason)
