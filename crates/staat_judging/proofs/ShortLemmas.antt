-- What the steps find that read a short certificate and judge it.
use Rattle.std.proofs.Common.{◌≡◌, refl, ap, subst, sym, arith, ℕ, ◌≤◌, List, length, Ok, Err}
use Rattle.std.specs.Prelude.{IfErr, IfOk, Result}
use Rattle.staat_cert.specs.declared.cert_refusal.CertRefusal.{CertRefusal}
use Rattle.staat_cert.specs.declared.cert_refusal.CertRefusal.TheVariants as cert
use Rattle.staat_edge.specs.Fitting.{Fit}
use Rattle.staat_edge.specs.Told.{ShelfTold}
use Rattle.staat_fault.specs.declared.fault.Fault.{Fault}
use Rattle.staat_fault.specs.declared.fault.Fault.TheVariants.{OutOfMemory}
use Rattle.staat_model.specs.declared.assembly.Part.{Part}
use Rattle.staat_limits.specs.declared.limits.TheConstants.{TEXT_LIMIT}
use Rattle.staat_short.specs.declared.reader.ShortReader.{ShortReader}
use Rattle.staat_short.specs.declared.short.ShortCertificate.{ShortCertificate}
use Rattle.staat_short.specs.ShortFeeds.{IsShortReadAnswer, WasFedShort}
use Rattle.staat_short.specs.ShortTexts.{IsShortInOrder}
use Rattle.staat_confirm.specs.declared.verdict.ShortVerdict.{ShortVerdict}
use Rattle.staat_confirm.specs.ShortVerdicts.{IsShortVerdict}
use Rattle.staat_input.specs.declared.answer.Answer.{Answer}
use Rattle.staat_input.specs.Work.{Files, Follows, IsNotTakenWithin}
use Rattle.staat_input.specs.Causes.{ShelfSide}
use Rattle.staat_judging.specs.Causes.{HasCertificateCause}
use Rattle.staat_judging.specs.Checking.{cert_fault}
use Rattle.staat_judging.specs.Confirming.{SaysShortCertificate, says_short, says_no, IsShortCertificateIn}
use Rattle.staat_judging.specs.Confirming.{IsConfirmed, short_verdict_answer}
use Rattle.staat_judging.specs.Feeding.{IsFed, IsFedFile}
use Rattle.staat_input.proofs.ReadLemmas.{not_taken_within}
use Rattle.staat_judging.proofs.FeedingLemmas.{found_fed}

-- ---- what the file says

pub says_read : (name text : List ℕ) (c : ShortCertificate) → IsShortReadAnswer text (Ok c)
    → SaysShortCertificate name text (Ok c)
says_read name text c h = says_short c h refl

pub read_formed : (text : List ℕ) (c : ShortCertificate) → IsShortReadAnswer text (Ok c) → IsShortInOrder c
read_formed text c h = h.1.form

pub says_refused : (name text : List ℕ) (refusal : CertRefusal) → length text ≤ TEXT_LIMIT
    → IsShortReadAnswer text (Err refusal) → Follows (SaysShortCertificate name text)
    (Err (cert_fault name refusal))
says_refused name text (cert.BadLine k) le h = says_no (cert.BadLine k) h (λ e. absurd cc) refl
says_refused name text cert.ShortCert le h = says_no cert.ShortCert h (λ e. absurd cc) refl
says_refused name text cert.TooLong le h = absurd (omega (arith, le, h))
says_refused name text cert.OutOfMemory le h = tt

pub refused_cause : (shelf : ShelfSide) (name text : List ℕ) (refusal : CertRefusal) → length text ≤ TEXT_LIMIT
    → IsShortReadAnswer text (Err refusal) → HasCertificateCause name shelf (cert_fault name refusal)
refused_cause shelf name text (cert.BadLine k) le h = tt
refused_cause shelf name text cert.ShortCert le h = tt
refused_cause shelf name text cert.TooLong le h = absurd (omega (arith, le, h))
refused_cause shelf name text cert.OutOfMemory le h = tt

-- the whole file was fed
pub found_certificate : (told : ShelfTold) (files : Files) (name : List ℕ) (reader : ShortReader)
    (r : Result ShortCertificate Fault) → Fit told files → IsFedFile told name (WasFedShort reader)
    → ((text : List ℕ) → IsFed (WasFedShort reader) text → Follows (SaysShortCertificate name text) r)
    → Follows (IsShortCertificateIn files name) r
found_certificate told files name reader r fit file says = found_fed (SaysShortCertificate name) told files name
    (WasFedShort reader) r fit file says

-- it was not
pub no_certificate : (told : ShelfTold) (files : Files) (name : List ℕ) (f : Fault) → Fit told files
    → IsNotTakenWithin TEXT_LIMIT told name f → Follows (IsShortCertificateIn files name) (Err f)
no_certificate told files name f fit refused = not_taken_within TEXT_LIMIT (SaysShortCertificate name) told files
    name f fit refused

-- ---- the verdict

pub confirmed_answer : (parts : List Part) (c : ShortCertificate) (v : ShortVerdict) (r : Result Answer Fault)
    → IsShortVerdict parts c v → IfOk r (λ a. a ≡ short_verdict_answer c.answer v) → IfErr r (λ f. f ≡ OutOfMemory)
    → Follows (IsConfirmed parts c) r
confirmed_answer parts c v (Ok a) h e memory = record { verdict = v; right = h; is = ap Ok e }
confirmed_answer parts c v (Err f) h e memory = subst (λ g. Follows (IsConfirmed parts c) (Err g)) (sym memory) tt
