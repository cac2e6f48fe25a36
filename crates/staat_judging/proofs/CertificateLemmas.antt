-- What the steps find that read a certificate and judge it.
use Rattle.std.proofs.Common.{◌≡◌, refl, ap, subst, sym, arith, ℕ, ◌≤◌, List, length, Ok, Err}
use Rattle.std.specs.Prelude.{IfErr, IfOk, Result}
use Rattle.staat_cert.specs.declared.reader.CertReader.{CertReader}
use Rattle.staat_cert.specs.declared.cert_refusal.CertRefusal.{CertRefusal}
use Rattle.staat_cert.specs.declared.cert_refusal.CertRefusal.TheVariants as cert
use Rattle.staat_cert.specs.Feeds.{IsReadAnswer, WasFed}
use Rattle.staat_edge.specs.Fitting.{Fit}
use Rattle.staat_edge.specs.Told.{ShelfTold}
use Rattle.staat_fault.specs.declared.fault.Fault.{Fault}
use Rattle.staat_fault.specs.declared.fault.Fault.TheVariants.{OutOfMemory}
use Rattle.staat_model.specs.declared.assembly.Part.{Part}
use Rattle.staat_model.specs.declared.certificate.Certificate.{Certificate}
use Rattle.staat_limits.specs.declared.limits.TheConstants.{TEXT_LIMIT}
use Rattle.staat_model.specs.declared.verdict.Verdict.{Verdict}
use Rattle.staat_model.specs.Reasons.{IsVerdict}
use Rattle.staat_model.specs.Texts.{IsWellFormed}
use Rattle.staat_input.specs.declared.answer.Answer.{Answer}
use Rattle.staat_input.specs.Work.{Files, Follows, IsNotTakenWithin}
use Rattle.staat_judging.specs.Checking.{cert_fault}
use Rattle.staat_judging.specs.Checking.{SaysCertificate, says_whole, says_bad, says_short, IsCertificateIn}
use Rattle.staat_judging.specs.Checking.{IsChecked, verdict_answer}
use Rattle.staat_judging.specs.Feeding.{IsFed, IsFedFile}
use Rattle.staat_input.specs.Causes.{ShelfSide}
use Rattle.staat_judging.specs.Causes.{HasCertificateCause}
use Rattle.staat_input.proofs.ReadLemmas.{not_taken_within}
use Rattle.staat_judging.proofs.FeedingLemmas.{found_fed}

-- ---- what the file says

pub says_read : (name text : List ℕ) (c : Certificate) → IsReadAnswer text (Ok c) → SaysCertificate name text (Ok c)
says_read name text c h = says_whole c h.1 refl

pub read_formed : (text : List ℕ) (c : Certificate) → IsReadAnswer text (Ok c) → IsWellFormed c
read_formed text c h = h.1.form

pub says_refused : (name text : List ℕ) (refusal : CertRefusal) → length text ≤ TEXT_LIMIT → IsReadAnswer text (Err refusal) → Follows (SaysCertificate name text) (Err (cert_fault name refusal))
says_refused name text (cert.BadLine k) le h = says_bad k h.1 refl
says_refused name text cert.ShortCert le h = says_short h.1 refl
says_refused name text cert.TooLong le h = absurd (omega (arith, le, h))
says_refused name text cert.OutOfMemory le h = tt

pub refused_cause : (shelf : ShelfSide) (name text : List ℕ) (refusal : CertRefusal) → length text ≤ TEXT_LIMIT → IsReadAnswer text (Err refusal) → HasCertificateCause name shelf (cert_fault name refusal)
refused_cause shelf name text (cert.BadLine k) le h = tt
refused_cause shelf name text cert.ShortCert le h = tt
refused_cause shelf name text cert.TooLong le h = absurd (omega (arith, le, h))
refused_cause shelf name text cert.OutOfMemory le h = tt

-- the whole file was fed
pub found_certificate : (told : ShelfTold) (files : Files) (name : List ℕ) (reader : CertReader) (r : Result Certificate Fault) → Fit told files → IsFedFile told name (WasFed reader) → ((text : List ℕ) → IsFed (WasFed reader) text → Follows (SaysCertificate name text) r) → Follows (IsCertificateIn files name) r
found_certificate told files name reader r fit file says = found_fed (SaysCertificate name) told files name (WasFed reader) r fit file says

-- it was not
pub no_certificate : (told : ShelfTold) (files : Files) (name : List ℕ) (f : Fault) → Fit told files → IsNotTakenWithin TEXT_LIMIT told name f → Follows (IsCertificateIn files name) (Err f)
no_certificate told files name f fit refused = not_taken_within TEXT_LIMIT (SaysCertificate name) told files name f fit refused

-- ---- the verdict

pub checked_answer : (parts : List Part) (c : Certificate) (v : Verdict) (r : Result Answer Fault) → IsVerdict parts c v → IfOk r (λ a. a ≡ verdict_answer v) → IfErr r (λ f. f ≡ OutOfMemory) → Follows (IsChecked parts c) r
checked_answer parts c v (Ok a) h e memory = record { verdict = v; right = h; is = ap Ok e }
checked_answer parts c v (Err f) h e memory = subst (λ g. Follows (IsChecked parts c) (Err g)) (sym memory) tt
